-- `modes::chain::chained` meets its contract: what is chained so far, with the blocks still to come, makes the whole.
-- Assumes nothing.
use Prim.Native.Nat.{◌+◌, ◌-◌, ◌<◌}
use lib.ListN.{length}
use Rattle.modes.proofs.Blocks.{Left}
use Rattle.modes.proofs.chain.chained.Given as goal

abbrev pub invariant-loop-at : goal.invariant-loop-at
invariant-loop-at l = (l.at < length l.m + 16) × Left l.ks l.m l.at l.initial.x l.x

abbrev pub decreases-loop-at : goal.decreases-loop-at
decreases-loop-at l = length l.m + 16 - l.at
