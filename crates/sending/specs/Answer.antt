-- What a request to send is answered (document 01, "Numbers of the refusals", 14 to 16).
--   paper a    this paper's number and values of an answer; PaperApart: no two alike
--   spoken t   the answer of one transmission
use Rattle.std.specs.Prelude.{Result, Ok, Err, [], ◌∷◌, ℕ}
use Rattle.common.specs.Paper as given
use Rattle.receiver.specs.declared.answer.Refusal.{Refusal}
use Rattle.receiver.specs.declared.state.Receiver.{Receiver}
use Rattle.receiver.specs.Answer.{refusal_number}
use Rattle.sending.specs.declared.answer.Answer.{Answer}
use Rattle.sending.specs.declared.answer.Answer.TheVariants as answer
use Rattle.sending.specs.declared.answer.Spoken.{Spoken}
use Rattle.sending.specs.declared.transmission.Transmitted.{Transmitted}

-- this paper's number and values of each answer: the octets of the PDU, and SegN
pub data Word : Type 0 where
  sent started : Word

abbrev pub paper : Result Answer Refusal → given.Paper Word
paper (Ok (answer.Sent len)) = given.Given sent (len ∷ [])
paper (Ok (answer.Started len seg_n)) = given.Given started (len ∷ seg_n ∷ [])
paper (Err n) = given.Refusal (refusal_number n) []

abbrev pub PaperApart : Type 0
PaperApart = given.ToldApart paper

-- a refusal that leaves everything
abbrev pub refused_at : Receiver → Refusal → Spoken
refused_at r n = record { answer = Err n; receiver = r }

-- one PDU sent; 15; or 14, where it cannot be sealed
abbrev pub spoken_as : Result ℕ Refusal → Receiver → Spoken
spoken_as (Ok n) r = record { answer = Ok (answer.Sent n); receiver = r }
spoken_as (Err n) r = refused_at r n

unfoldable pub spoken : Transmitted → Spoken
spoken t = spoken_as t.sent t.receiver
