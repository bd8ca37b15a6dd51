-- `looking::put_sessions` meets its contract: after some of the slots their text is written.
-- Assumes nothing.
use mathlib.Core.Path.{◌≡◌}
use lib.ListN.{take}
use Rattle.text.specs.Writer.{writing}
use Rattle.answers.specs.Looking.{placed_text, session_text}
use Rattle.answers.proofs.looking.put_sessions.Given as goal

abbrev pub invariant-loop-slot : goal.invariant-loop-slot
invariant-loop-slot l = l.w ≡ writing (placed_text session_text 0 (take l.slot l.sessions)) l.initial.w
