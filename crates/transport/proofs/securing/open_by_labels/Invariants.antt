-- `transport::securing::open_by_labels` meets its contract: each turn passes a label, tries one in vain, which keeps the buffer, or ends with one that
-- opens the message, and the count of trials stays a place among the labels of DST. The measure is what is left of the four labels. Assumes nothing.
use mathlib.Core.Path.{◌≡◌}
use Prim.Native.Nat.{◌≤◌, ◌-◌}
use Rattle.transport.specs.Securing.{label_places}
use Rattle.transport.proofs.SecuringLaws.{SearchingLabels}
use Rattle.transport.proofs.securing.open_by_labels.Given as goal

abbrev pub invariant-loop-j : goal.invariant-loop-j
invariant-loop-j l =
    SearchingLabels l.held l.i l.e l.sealed l.initial.out l.j l.trials × (l.trials ≤ l.j) × (l.out ≡ l.initial.out)

abbrev pub decreases-loop-j : goal.decreases-loop-j
decreases-loop-j l = label_places - l.j
