-- `KeepsToRanges`: each form is answered only where its tests hold, and a remainder is below what it is taken by.
-- Assumes nothing.
use mathlib.Core.Bool.{true, false, ◌&&◌}
use mathlib.Core.Path.{◌≡◌, refl, sym, subst}
use Prim.Native.Nat.{ℕ}
use native.Mathlib.Omega.{arith}
use borrow.Author.Tests.{leb-true, eqb-true, eqb-false}
use lib.Dec.{leb, eqb}
use Rattle.common.proofs.Tests.{by_test, and_first, and_second}
use Rattle.std.specs.Prelude.{Option, Some, None}
use Rattle.network.specs.declared.header.Header.{Header}
use Rattle.transport.specs.declared.form.Form.{Form}
use Rattle.transport.specs.declared.opcode.OpcodeKind.{OpcodeKind}
use Rattle.transport.specs.declared.opcode.OpcodeKind.TheVariants.{OfAcknowledgement, OfControl, NoOpcode}
use Rattle.transport.specs.Opcode.{opcode_kind}
use Rattle.transport.specs.Fields.{seg, akf, aid, opcode}
use Rattle.transport.specs.Form.{key_fits, segment_fits, fields_of, first, access_form, access_segment_form, control_as, control_form, control_segment_as, control_segment_form, form_of}
use Rattle.transport.specs.Ranges.{OpcodeInRange, Kept, KeepsToRanges}
use Rattle.transport.proofs.FormLaws.{form_as_law}

-- what holds of a header that is read so, if as a form at all
abbrev KeptIn : Header → Option Form → Type 0
KeptIn h (Some f) = Kept h f
KeptIn h None = Unit {0}

-- ---- CTL 0
module _ (h : Header) (ctl : h.ctl ≡ false) where
  kept_access : KeptIn h (access_form h)
  unfolding access_form
  kept_access =
      let key = key_fits (akf (first h)) (aid (first h)) h.dst in
      by_test (leb 6 h.len && key)
      (λ t. rw t
      (ctl, record { aid_fits = omega arith; fits = and_second (leb 6 h.len) key t }, leb-true 6 h.len (and_first (leb 6 h.len) key t)))
      (λ t. rw t tt)

  kept_access_segment : KeptIn h (access_segment_form h)
  unfolding access_segment_form fields_of
  kept_access_segment =
      let f = fields_of h in
      let key = key_fits (akf (first h)) (aid (first h)) h.dst in
      let fits = segment_fits f.sego f.segn h.len 16 in
      by_test (key && fits)
      (λ t. rw t (
        ctl,
        record { aid_fits = omega arith; fits = and_first key fits t },
        record { seq_zero_fits = omega arith; seg_n_fits = omega arith; fits = and_second key fits t },
      ))
      (λ t. rw t tt)

-- ---- CTL 1
control_opcode : (p : ℕ) → opcode_kind p ≡ OfControl → OpcodeInRange p
unfolding opcode_kind
control_opcode p e =
    by_test (eqb p 0)
    (λ t. let f : OfAcknowledgement ≡ OfControl = simp t at e in let z : ◌≡◌ {A = ℕ} 0 1 = cc in absurd (omega arith))
    (λ t. by_test (leb p 0x7F)
    (λ s. record { not_zero = omega (arith, eqb-false p 0 t); opcode_fits = leb-true p 0x7F s })
    (λ s. let f : NoOpcode ≡ OfControl = simp (t, s) at e in let z : ◌≡◌ {A = ℕ} 0 1 = cc in absurd (omega arith)))

module _ (h : Header) (ctl : h.ctl ≡ true) where
  kept_control_as : (o : OpcodeKind) → opcode_kind (opcode (first h)) ≡ o → KeptIn h (control_as o h)
  unfolding control_as
  kept_control_as OfAcknowledgement e =
      by_test (eqb h.len 7)
      (λ t. rw t (ctl, omega arith, eqb-true h.len 7 t))
      (λ t. rw t tt)
  kept_control_as OfControl e = (ctl, control_opcode (opcode (first h)) e)
  kept_control_as NoOpcode e = tt

  kept_control : KeptIn h (control_form h)
  unfolding control_form
  kept_control = kept_control_as (opcode_kind (opcode (first h))) refl

  kept_control_segment_as : (o : OpcodeKind) → opcode_kind (opcode (first h)) ≡ o → KeptIn h (control_segment_as o h)
  unfolding control_segment_as fields_of
  kept_control_segment_as OfAcknowledgement e = tt
  kept_control_segment_as OfControl e =
      let f = fields_of h in
      by_test (segment_fits f.sego f.segn h.len 12)
      (λ t. rw t
      (ctl, control_opcode (opcode (first h)) e, record { seq_zero_fits = omega arith; seg_n_fits = omega arith; fits = t }))
      (λ t. rw t tt)
  kept_control_segment_as NoOpcode e = tt

  kept_control_segment : KeptIn h (control_segment_form h)
  unfolding control_segment_form
  kept_control_segment = kept_control_segment_as (opcode_kind (opcode (first h))) refl

kept_in : (h : Header) → KeptIn h (form_of h)
kept_in h =
    by_test h.ctl
    (λ c. by_test (seg (first h))
    (λ s. subst (KeptIn h) (sym (form_as_law h true true c s)) (kept_control_segment h c))
    (λ s. subst (KeptIn h) (sym (form_as_law h true false c s)) (kept_control h c)))
    (λ c. by_test (seg (first h))
    (λ s. subst (KeptIn h) (sym (form_as_law h false true c s)) (kept_access_segment h c))
    (λ s. subst (KeptIn h) (sym (form_as_law h false false c s)) (kept_access h c)))

pub keeps_to_ranges : KeepsToRanges
keeps_to_ranges h f e = subst (KeptIn h) e (kept_in h)
