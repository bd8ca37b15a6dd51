-- `speed::hearing::open_over` meets its contract: after n turns the count is that of n openings, and a turn counts at most 1.
-- Assumes nothing.
use mathlib.Core.Path.{◌≡◌}
use Prim.Native.Nat.{◌≤◌}
use Rattle.speed.specs.Hearing.{opened_over}
use Rattle.speed.proofs.hearing.open_over.Given as goal

abbrev pub invariant-loop : goal.invariant-loop
invariant-loop l = (l.count ≤ l.counter) × (l.count ≡ opened_over l.node l.pdu l.counter)
