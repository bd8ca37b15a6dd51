-- What a transport PDU's form is where its tests hold: one law for each kind.
-- Assumes nothing.
use mathlib.Core.Bool.{Bool, true, false, not, ◌&&◌}
use mathlib.Core.Path.{◌≡◌, ap₂}
use Prim.Native.Nat.{ℕ, ◌≤◌}
use borrow.Author.Tests.{not-false, le-leb, eq-eqb}
use Rattle.std.specs.Prelude.{Some}
use Rattle.network.specs.declared.header.Header.{Header}
use Rattle.transport.specs.declared.form.Form.TheVariants.{Access, AccessSegment, Control, ControlSegment, Acknowledgement}
use Rattle.transport.specs.declared.form.SegmentFields.{SegmentFields}
use Rattle.transport.specs.declared.opcode.OpcodeKind.{OpcodeKind}
use Rattle.transport.specs.declared.opcode.OpcodeKind.TheVariants.{OfAcknowledgement, OfControl}
use Rattle.transport.specs.Opcode.{opcode_kind}
use Rattle.transport.specs.Fields.{seg, akf, aid, opcode, fields_number, szmic, seq_zero, seg_o, seg_n, acknowledged, obo, seq_zero_heard, block_ack}
use Rattle.transport.specs.Form.{key_fits, segment_fits, fields_of, first, access_form, access_segment_form, control_as, control_form, control_segment_as, control_segment_form, form_as, form_of}

-- ---- its fields
pub fields_are :
    (h : Header) (n : ℕ) → n ≡ fields_number h.transport → (long : Bool) → long ≡ (not h.ctl && szmic n)
    → ◌≡◌ {A = SegmentFields} (record { szmic = long; seqzero = seq_zero n; sego = seg_o n; segn = seg_n n }) (fields_of h)
unfolding fields_of
fields_are h n e long el = rw (← e, el)

-- ---- CTL 0
module _ (h : Header) where
  module _ (k : Bool) (a : Bool) (ea : a ≡ akf (first h)) (ek : k ≡ key_fits a (aid (first h)) h.dst) where
    module _ (l : 6 ≤ h.len) where
      pub access_whole : k ≡ true → Some (Access a (aid (first h))) ≡ access_form h
      unfolding access_form
      access_whole e = rw (← ea, ← ek, le-leb 6 h.len l, e)

    module _ (e : not k ≡ false) (f : SegmentFields) (ef : f ≡ fields_of h) (s : Bool) (es : s ≡ segment_fits f.sego f.segn h.len 16) where
      pub segment_read : not s ≡ false → Some (AccessSegment a (aid (first h)) f) ≡ access_segment_form h
      unfolding access_segment_form
      segment_read t = rw (← ea, ← ek, not-false k e, ← ef, ← es, not-false s t)

-- ---- CTL 1
module _ (h : Header) (o : OpcodeKind) (eo : o ≡ opcode_kind (opcode (first h))) where
  module _ (k : o ≡ OfAcknowledgement) where
    pub ack_read :
        h.len ≡ 7 → (n : ℕ) → n ≡ acknowledged h.transport → (b : ℕ) → b ≡ block_ack h.transport
        → Some (Acknowledgement (obo n) (seq_zero_heard n) b) ≡ control_form h
    unfolding control_form control_as
    ack_read l n en b eb = rw (← eo, k, eq-eqb h.len 7 l, en, eb)

  module _ (k : o ≡ OfControl) where
    pub control_whole : Some (Control (opcode (first h))) ≡ control_form h
    unfolding control_form control_as
    control_whole = rw (← eo, k)

    module _ (f : SegmentFields) (ef : f ≡ fields_of h) (s : Bool) (es : s ≡ segment_fits f.sego f.segn h.len 12) where
      pub control_read : not s ≡ false → Some (ControlSegment (opcode (first h)) f) ≡ control_segment_form h
      unfolding control_segment_form control_segment_as
      control_read t = rw (← eo, k, ← ef, ← es, not-false s t)

-- ---- by CTL and SEG
pub form_as_law : (h : Header) (ctl seg' : Bool) → h.ctl ≡ ctl → seg (first h) ≡ seg' → form_of h ≡ form_as ctl seg' h
unfolding form_of
form_as_law h ctl seg' ec es = ap₂ (λ (c s : Bool). form_as c s h) ec es
