-- An answer is read back from how it is given. Assumes nothing.
use mathlib.Core.Path.{◌≡◌, refl, ap}
use lib.ListN.{get_or}
use Rattle.std.specs.Prelude.{Result, Ok, Err}
use Rattle.common.specs.Paper as given
use Rattle.common.proofs.PaperLaws.{told_apart}
use Rattle.receiver.specs.declared.answer.Refusal.{Refusal}
use Rattle.receiver.proofs.AnswerLaws.{refusal_of, refusal_back}
use Rattle.sending.specs.declared.answer.Answer.{Answer}
use Rattle.sending.specs.declared.answer.Answer.TheVariants.{Sent, Started}
use Rattle.sending.specs.Answer.{Word, sent, started, paper, PaperApart}

abbrev read : given.Paper Word → Result Answer Refusal
read (given.Refusal n v) = Err (refusal_of n)
read (given.Given sent v) = Ok (Sent (get_or v 0 0))
read (given.Given started v) = Ok (Started (get_or v 0 0) (get_or v 1 0))

back : (a : Result Answer Refusal) → read (paper a) ≡ a
back (Ok (Sent len)) = refl
back (Ok (Started len seg_n)) = refl
back (Err n) = ap Err (refusal_back n)

pub paper_apart : PaperApart
paper_apart = told_apart paper read back
