-- `transport::securing::open_by_application` meets its contract: each turn passes a key, tries what there is under one in vain, which keeps the buffer, or ends with a
-- pair that opens the message, and the count of trials stays a place among the pairs. The measure is what is left of the four keys. Assumes nothing.
use mathlib.Core.Logic.{⊎_elim}
use mathlib.Core.Path.{ap, ◌∙◌}
use Prim.Native.Nat.{ℕ, ◌≤◌, ◌<◌, ◌-◌, min}
use native.Mathlib.Omega.{arith}
use borrow.Author.Tests.{leb-false}
use lib.ListN.{length}
use Rattle.std.specs.Prelude.{Err}
use Rattle.common.specs.Lent.{lent}
use Rattle.transport.specs.declared.securing.Unopened.TheVariants.{NotOpened}
use Rattle.transport.specs.Securing.{application_key_places}
use Rattle.transport.proofs.SecuringLaws.{key_passed, key_tried, key_opens, no_key_opens_law, under_on, under_kept, under_most}
use Rattle.transport.proofs.securing.open_by_application.Goals as goal
use Rattle.transport.proofs.securing.open_by_application.Goals.{then-fits+in_default, else-fits}

pub overflow_add-trials : goal.overflow_add-trials
overflow_add-trials c =
    let a = c.args in
    let u = under_on a.held c.loop-i.i a.e a.sealed.now a.out.now c.loop-i.invariant.2 c.open_under-t.ensures in
    omega (arith, leb-false, under_most a.held c.loop-i.i a.e a.sealed.now a.out.now u)

pub loop-i-preserved : goal.loop-i-preserved
loop-i-preserved c =
    let a = c.args in
    let h : c.loop-i.i < min a.held.applications application_key_places = omega (arith, leb-false) in
    let f = c.fits.ensures in
    elim c.if-fits.branch [
      | then-fits+in_default w ↦
          let u = under_on a.held c.loop-i.i a.e a.sealed.now a.out.now c.loop-i.invariant.2 w.open_under-t.ensures in
          let m = under_most a.held c.loop-i.i a.e a.sealed.now a.out.now u in
          rw w.trials-is (
            key_tried a.held a.e a.sealed.now a.out.now c.loop-i.invariant.0 h f w.if-fits.true u w.in_default.is,
            omega arith,
            w.out-is ∙ under_kept a.held c.loop-i.i a.e a.sealed.now a.out.now u w.in_default.is,
          )
      | else-fits w ↦
          rw w.trials-is
          (key_passed a.held a.e a.sealed.now a.out.now c.loop-i.invariant.0 h f w.if-fits.false, omega arith, w.out-is ∙ c.loop-i.invariant.2)
    ]

pub returns-then-i-ge-KEYS : goal.returns-then-i-ge-KEYS
returns-then-i-ge-KEYS c =
    let a = c.args in
    let h : min a.held.applications application_key_places ≤ c.loop-i.i = ⊎_elim (λ w. omega arith) (λ w. omega arith) c.then-i-ge-KEYS.either in
    ap (lent (Err (NotOpened c.loop-i.trials))) c.loop-i.invariant.2 ∙ no_key_opens_law a.held a.e a.sealed.now a.out.now c.loop-i.invariant.0 h

pub returns-in-Some : goal.returns-in-Some
returns-in-Some c =
    let a = c.args in
    key_opens a.held a.e a.sealed.now a.out.now c.loop-i.invariant.0 (omega (arith, leb-false)) c.fits.ensures c.if-fits.true
    (under_on a.held c.loop-i.i a.e a.sealed.now a.out.now c.loop-i.invariant.2 c.open_under-t.ensures)
    (ap (λ (n : ℕ). length a.sealed.now - n) c.mic_octets.ensures) c.in-Some.opener c.in-Some.is
