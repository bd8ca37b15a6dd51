-- `field::start` meets its contract: what is to be found behind the line's `n` spaces is to be found behind `left` from octet `i` on.
-- Assumes nothing.
use mathlib.Core.Path.{◌≡◌}
use lib.ListN.{drop}
use Rattle.text.specs.Field.{behind}
use Rattle.text.proofs.field.start.Given as goal

abbrev pub invariant-loop-i : goal.invariant-loop-i
invariant-loop-i l = behind l.n l.line ≡ behind l.left (drop l.i l.line)
