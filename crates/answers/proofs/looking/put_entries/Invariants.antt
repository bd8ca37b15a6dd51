-- `looking::put_entries` meets its contract: after some of the places their text is written.
-- Assumes nothing.
use mathlib.Core.Path.{◌≡◌}
use lib.ListN.{take}
use Rattle.text.specs.Writer.{writing}
use Rattle.answers.specs.Looking.{placed_text, seen_text}
use Rattle.answers.proofs.looking.put_entries.Given as goal

abbrev pub invariant-loop-e : goal.invariant-loop-e
invariant-loop-e l = l.w ≡ writing (placed_text (λ i e. seen_text e) 0 (take l.e-index l.entries)) l.initial.w
