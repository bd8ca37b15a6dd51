-- `memory::replay::shift` meets its contract: place by place the list is what it is to be.
-- Assumes nothing.
use Rattle.common.proofs.Fill.{Filled}
use Rattle.memory.specs.Replay.{replay_entries, no_entry, shifted_at}
use Rattle.memory.proofs.replay.shift.Given as goal

abbrev pub invariant-loop-i : goal.invariant-loop-i
invariant-loop-i l = Filled no_entry (shifted_at l.replay l.p l.e) replay_entries l.after l.i
