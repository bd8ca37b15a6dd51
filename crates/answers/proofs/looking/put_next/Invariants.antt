-- `looking::put_next` meets its contract: after some of the elements their numbers are written.
-- Assumes nothing.
use mathlib.Core.Path.{◌≡◌}
use lib.ListN.{take}
use Rattle.text.specs.Writer.{writing}
use Rattle.answers.specs.Answer.{named}
use Rattle.answers.specs.Looking.{placed_text}
use Rattle.answers.proofs.looking.put_next.Given as goal

abbrev pub invariant-loop-seq : goal.invariant-loop-seq
invariant-loop-seq l = l.w ≡ writing (placed_text (λ i seq. named " " 6 seq) 0 (take l.seq-index l.seq-items)) l.initial.w
