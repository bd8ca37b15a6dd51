-- `speed::hearing::hear_over` meets its contract: after n turns count and message buffer are those of n hearings, and a turn counts at most 2.
-- Assumes nothing.
use mathlib.Core.Path.{◌≡◌}
use Prim.Native.Nat.{◌*◌, ◌≤◌}
use lib.ListN.{length}
use Rattle.common.specs.Lent.{lent}
use Rattle.speed.specs.Hearing.{heard_over}
use Rattle.speed.proofs.hearing.hear_over.Given as goal

abbrev pub invariant-loop : goal.invariant-loop
invariant-loop l =
    (l.count ≤ 2 * l.counter) × ((length l.message ≡ length l.initial.message) × (lent l.count l.message ≡ heard_over l.r l.pdu l.slot l.initial.message l.counter))
