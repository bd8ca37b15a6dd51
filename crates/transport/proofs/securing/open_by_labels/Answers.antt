-- `transport::securing::open_by_labels` meets its contract: each turn passes a label, tries one in vain, which keeps the buffer, or ends with one that
-- opens the message, and the count of trials stays a place among the labels of DST. The measure is what is left of the four labels. Assumes nothing.
use mathlib.Core.Logic.{⊎_elim}
use mathlib.Core.Path.{ap, ◌∙◌}
use Prim.Native.Nat.{◌≤◌, ◌<◌, min}
use native.Mathlib.Omega.{arith}
use borrow.Author.Tests.{leb-false, eq-eqb, ne_eqb}
use Rattle.common.specs.Lent.{lent}
use Rattle.std.specs.Prelude.{None}
use Rattle.transport.specs.Securing.{label_places, application_key_at, label_at}
use Rattle.transport.proofs.SecuringLaws.{label_passed, label_tried, label_opens, no_label_opens, opened_on, opened_kept}
use Rattle.transport.proofs.securing.open_by_labels.Goals as goal
use Rattle.transport.proofs.securing.open_by_labels.Goals.{then-l-e+else-open_by_label, else-l-e}

pub loop-j-preserved : goal.loop-j-preserved
loop-j-preserved c =
    let a = c.args in
    let h : c.loop-j.j < min a.held.labelled label_places = omega (arith, leb-false) in
    let key = (application_key_at a.held.appkeys a.i).key in
    let label = label_at a.held.labels c.loop-j.j in
    elim c.if-l-e.branch [
      | then-l-e+else-open_by_label w ↦
          let o = opened_on key a.e label.octets a.sealed.now a.out.now c.loop-j.invariant.2 w.open_by_label.ensures in
          rw w.trials-is (
            label_tried a.held a.i a.e a.sealed.now a.out.now c.loop-j.invariant.0 h (eq-eqb _ _ w.if-l-e.true) o w.if-open_by_label.false,
            omega arith,
            w.out-is ∙ opened_kept key a.e label.octets a.sealed.now a.out.now o w.if-open_by_label.false,
          )
      | else-l-e w ↦
          rw w.trials-is (
            label_passed a.held a.i a.e a.sealed.now a.out.now c.loop-j.invariant.0 h (ne_eqb _ _ w.if-l-e.false),
            omega arith,
            w.out-is ∙ c.loop-j.invariant.2,
          )
    ]

pub returns-then-j-ge-LABELS : goal.returns-then-j-ge-LABELS
returns-then-j-ge-LABELS c =
    let a = c.args in
    let h : min a.held.labelled label_places ≤ c.loop-j.j = ⊎_elim (λ w. omega arith) (λ w. omega arith) c.then-j-ge-LABELS.either in
    ap (lent (record { trials = c.loop-j.trials; opener = None })) c.loop-j.invariant.2
    ∙ no_label_opens a.held a.i a.e a.sealed.now a.out.now c.loop-j.invariant.0 h

pub returns-then-open_by_label : goal.returns-then-open_by_label
returns-then-open_by_label c =
    let a = c.args in
    let key = (application_key_at a.held.appkeys a.i).key in
    let label = label_at a.held.labels c.loop-j.j in
    label_opens a.held a.i a.e a.sealed.now a.out.now c.loop-j.invariant.0 (omega (arith, leb-false)) (eq-eqb _ _ c.if-l-e.true)
    (opened_on key a.e label.octets a.sealed.now a.out.now c.loop-j.invariant.2 c.open_by_label.ensures) c.if-open_by_label.true
