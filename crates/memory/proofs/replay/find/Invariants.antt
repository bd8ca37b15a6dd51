-- `memory::replay::find` meets its contract: the search from low to high is the search of all, and behind the last place nothing stands. The measure is what is left between them.
-- Assumes nothing.
use mathlib.Core.Path.{◌≡◌}
use Prim.Native.Nat.{◌-◌}
use native.Mathlib.Omega.{arith}
use lib.ListN.{length, get_or}
use Rattle.common.proofs.Halving.{Halving}
use Rattle.memory.specs.Replay.{replay_entries, no_entry, before}
use Rattle.memory.proofs.replay.find.Given as goal

abbrev pub invariant-loop-low : goal.invariant-loop-low
invariant-loop-low l =
    Halving (λ i. before l.src (get_or l.replay i no_entry)) 5 replay_entries (omega arith) l.low l.high × (length l.replay ≡ replay_entries)

abbrev pub decreases-loop-low : goal.decreases-loop-low
decreases-loop-low l = l.high - l.low
