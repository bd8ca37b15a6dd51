-- `transport::securing::open_by_application` meets its contract: each turn passes a key, tries what there is under one in vain, which keeps the buffer, or ends with a
-- pair that opens the message, and the count of trials stays a place among the pairs. The measure is what is left of the four keys. Assumes nothing.
use mathlib.Core.Path.{◌≡◌}
use Prim.Native.Nat.{◌*◌, ◌≤◌, ◌-◌}
use Rattle.transport.specs.Securing.{application_key_places, label_places}
use Rattle.transport.proofs.SecuringLaws.{Searching}
use Rattle.transport.proofs.securing.open_by_application.Given as goal

abbrev pub invariant-loop-i : goal.invariant-loop-i
invariant-loop-i l =
    Searching l.held l.e l.sealed l.initial.out l.i l.trials × (l.trials ≤ l.i * label_places) × (l.out ≡ l.initial.out)

abbrev pub decreases-loop-i : goal.decreases-loop-i
decreases-loop-i l = application_key_places - l.i
