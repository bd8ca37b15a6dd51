-- What was written is read back: octets and their number determine each other, and each field is a quotient and a remainder of the number
-- that the fields made. Then the rule of the form's answer gives the fields.
-- Assumes nothing.
use mathlib.Core.Bool.{Bool, true, false, not, ◌&&◌}
use mathlib.Core.List.{List, ◌∷◌, ◌++◌}
use mathlib.Core.Path.{◌≡◌, refl, sym, ap, ◌∙◌}
use Prim.Native.Nat.{ℕ, ◌+◌, ◌*◌, ◌%◌, ◌^◌, ◌≤◌, ◌<◌}
use native.Mathlib.Omega.{arith}
use borrow.Author.Tests.{leb-true, le-leb, lt-leb, ne_eqb}
use lib.Dec.{leb}
use lib.ListN.{get_or}
use Rattle.common.proofs.Tests.{and_first, and_second}
use Rattle.std.specs.Prelude.{Some}
use Rattle.network.specs.declared.header.Header.{Header}
use Rattle.network.specs.Octets.{octets}
use Rattle.transport.specs.declared.form.Form.TheVariants.{Access, AccessSegment, Control, ControlSegment}
use Rattle.transport.specs.declared.form.SegmentFields.{SegmentFields}
use Rattle.transport.specs.declared.opcode.OpcodeKind.TheVariants.{OfAcknowledgement, OfControl}
use Rattle.transport.specs.Opcode.{opcode_kind}
use Rattle.transport.specs.Fields.{seg, akf, aid, opcode, fields_number, szmic, seq_zero, seg_o, seg_n, acknowledged, obo, seq_zero_heard, block_ack}
use Rattle.transport.specs.Form.{key_fits, segment_fits, fields_of, first}
use Rattle.transport.specs.Segment.{access_octet, control_octet, segment_number, segment_front, acknowledgement_number, acknowledgement_octets}
use Rattle.transport.specs.Ranges.{InRange, OpcodeInRange}
use Rattle.transport.specs.ReadsBack.{Carries, front_of, AccessReadsBack, AccessSegmentReadsBack, ControlReadsBack, ControlSegmentReadsBack, AcknowledgementReadsBack}
use Rattle.transport.proofs.FormLaws.{fields_are, form_as_law, access_whole, segment_read, ack_read, control_whole, control_read}

-- ---- octet 0
seg_access : (s k : Bool) (a : ℕ) → seg (access_octet s k a) ≡ s
unfolding access_octet
seg_access true true a = le-leb 128 (128 + 64 + a % 64) (omega arith)
seg_access true false a = le-leb 128 (128 + 0 + a % 64) (omega arith)
seg_access false true a = lt-leb 128 (0 + 64 + a % 64) (omega arith)
seg_access false false a = lt-leb 128 (0 + 0 + a % 64) (omega arith)

pub akf_access : (s k : Bool) (a : ℕ) → akf (access_octet s k a) ≡ k
unfolding access_octet
akf_access true true a = le-leb 64 ((128 + 64 + a % 64) % 128) (omega arith)
akf_access true false a = lt-leb 64 ((128 + 0 + a % 64) % 128) (omega arith)
akf_access false true a = le-leb 64 ((0 + 64 + a % 64) % 128) (omega arith)
akf_access false false a = lt-leb 64 ((0 + 0 + a % 64) % 128) (omega arith)

pub aid_access : (s k : Bool) (a : ℕ) → a < 64 → aid (access_octet s k a) ≡ a
unfolding access_octet
aid_access true true a h = omega arith
aid_access true false a h = omega arith
aid_access false true a h = omega arith
aid_access false false a h = omega arith

seg_control : (s : Bool) (o : ℕ) → seg (control_octet s o) ≡ s
unfolding control_octet
seg_control true o = le-leb 128 (128 + o % 128) (omega arith)
seg_control false o = lt-leb 128 (0 + o % 128) (omega arith)

pub opcode_control : (s : Bool) (o : ℕ) → o ≤ 0x7F → opcode (control_octet s o) ≡ o
unfolding control_octet
opcode_control true o h = omega arith
opcode_control false o h = omega arith

kind_control : (o : ℕ) → OpcodeInRange o → OfControl ≡ opcode_kind o
unfolding opcode_kind
kind_control o r = rw (ne_eqb o 0 (λ e. omega (arith, r.not_zero)), le-leb o 0x7F r.opcode_fits)

-- ---- octets 1-3 of a segment
-- the number gives its fields back, and has 24 bits
pub record FieldsBack (s : Bool) (z o n number : ℕ) : Type 0 where
  pub is_szmic : szmic number ≡ s
  pub is_seq_zero : seq_zero number ≡ z
  pub is_seg_o : seg_o number ≡ o
  pub is_seg_n : seg_n number ≡ n
  pub small : number < 16777216

pub fields_back : (s : Bool) (z o n : ℕ) → z < 8192 → o < 32 → n < 32 → FieldsBack s z o n (segment_number s z o n)
unfolding segment_number
fields_back true z o n hz ho hn =
    record {
      is_szmic = le-leb 8388608 (8388608 + (z % 8192 * 1024 + o % 32 * 32 + n % 32)) (omega arith);
      is_seq_zero = omega arith;
      is_seg_o = omega arith;
      is_seg_n = omega arith;
      small = omega arith;
    }
fields_back false z o n hz ho hn =
    record {
      is_szmic = lt-leb 8388608 (0 + (z % 8192 * 1024 + o % 32 * 32 + n % 32)) (omega arith);
      is_seq_zero = omega arith;
      is_seg_o = omega arith;
      is_seg_n = omega arith;
      small = omega arith;
    }

-- a number of 24 bits is that of its three octets
pub three : (a number : ℕ) (l : List ℕ) → number < 16777216 → number ≡ fields_number ((a ∷ octets 3 number) ++ l)
unfolding octets
three a number l h = omega arith

module _ (f : SegmentFields) (len full : ℕ) (i : InRange f len full) where
  -- SegO is at most SegN
  pub seg_o_fits : f.sego ≤ f.segn
  unfolding segment_fits
  seg_o_fits = leb-true f.sego f.segn (and_first (leb f.sego f.segn) _ (and_second (leb 5 len) _ i.fits))

  fields_made : FieldsBack f.szmic f.seqzero f.sego f.segn (segment_number f.szmic f.seqzero f.sego f.segn)
  fields_made =
      fields_back f.szmic f.seqzero f.sego f.segn i.seq_zero_fits (omega (arith, i.seg_n_fits, seg_o_fits)) i.seg_n_fits

-- the fields that stand in front are those that were written; of a control segment SZMIC is written 0
fields_read :
    (h : Header) (ctl : Bool) (octet : ℕ) (f : SegmentFields) (full : ℕ) → Carries h ctl (front_of octet f) → InRange f h.len full
    → not ctl && f.szmic ≡ f.szmic → f ≡ fields_of h
unfolding segment_front
fields_read h ctl octet f full c i z =
    let number = segment_number f.szmic f.seqzero f.sego f.segn in
    let b = fields_made f h.len full i in
    let e : number ≡ fields_number h.transport = three octet number c.behind b.small ∙ sym (ap fields_number c.begins) in
    rw (← fields_are h number e f.szmic (rw (c.ctl_is, b.is_szmic) (sym z)), b.is_seq_zero, b.is_seg_o, b.is_seg_n) refl

-- ---- octets 1-2 of an acknowledgement, and octets 3-6
record AckBack (s : Bool) (z number : ℕ) : Type 0 where
  is_obo : obo number ≡ s
  is_seq_zero : seq_zero_heard number ≡ z
  small : number < 65536

ack_back : (s : Bool) (z : ℕ) → z < 8192 → AckBack s z (acknowledgement_number s z)
unfolding acknowledgement_number
ack_back true z h =
    record { is_obo = le-leb 32768 (32768 + z % 8192 * 4) (omega arith); is_seq_zero = omega arith; small = omega arith }
ack_back false z h =
    record { is_obo = lt-leb 32768 (0 + z % 8192 * 4) (omega arith); is_seq_zero = omega arith; small = omega arith }

two : (number bits : ℕ) (l : List ℕ) → number < 65536 → number ≡ acknowledged ((0 ∷ octets 2 number ++ octets 4 bits) ++ l)
unfolding octets
two number bits l h = omega arith

four : (number bits : ℕ) (l : List ℕ) → bits < 2 ^ 32 → bits ≡ block_ack ((0 ∷ octets 2 number ++ octets 4 bits) ++ l)
unfolding octets
four number bits l h = omega arith

-- ---- the five kinds
pub access_reads_back : AccessReadsBack
access_reads_back h k a c r l =
    let o = access_octet false k a in
    let e : first h ≡ o = ap (λ (t : List ℕ). get_or t 0 0) c.begins in
    let ea : k ≡ akf (first h) = sym (ap akf e ∙ akf_access false k a) in
    let ei : aid (first h) ≡ a = ap aid e ∙ aid_access false k a r.aid_fits in
    form_as_law h false false c.ctl_is (ap seg e ∙ seg_access false k a)
    ∙ sym (access_whole h true k ea (sym (ap (λ (x : ℕ). key_fits k x h.dst) ei ∙ r.fits)) l refl)
    ∙ ap (λ (x : ℕ). Some (Access k x)) ei

pub access_segment_reads_back : AccessSegmentReadsBack
unfolding segment_front
access_segment_reads_back h k a f c r i =
    let octet = access_octet true k a in
    let e : first h ≡ octet = ap (λ (t : List ℕ). get_or t 0 0) c.begins in
    let ea : k ≡ akf (first h) = sym (ap akf e ∙ akf_access true k a) in
    let ei : aid (first h) ≡ a = ap aid e ∙ aid_access true k a r.aid_fits in
    form_as_law h false true c.ctl_is (ap seg e ∙ seg_access true k a)
    ∙ sym
    (segment_read h true k ea (sym (ap (λ (x : ℕ). key_fits k x h.dst) ei ∙ r.fits)) refl f (fields_read h false octet f 16 c i refl) true
    (sym i.fits) refl)
    ∙ ap (λ (x : ℕ). Some (AccessSegment k x f)) ei

pub control_reads_back : ControlReadsBack
control_reads_back h o c r =
    let octet = control_octet false o in
    let e : first h ≡ octet = ap (λ (t : List ℕ). get_or t 0 0) c.begins in
    let eo : opcode (first h) ≡ o = ap opcode e ∙ opcode_control false o r.opcode_fits in
    form_as_law h true false c.ctl_is (ap seg e ∙ seg_control false o)
    ∙ sym (control_whole h OfControl (kind_control o r ∙ ap opcode_kind (sym eo)) refl)
    ∙ ap (λ (x : ℕ). Some (Control x)) eo

pub control_segment_reads_back : ControlSegmentReadsBack
unfolding segment_front
control_segment_reads_back h p f c r z i =
    let octet = control_octet true p in
    let e : first h ≡ octet = ap (λ (t : List ℕ). get_or t 0 0) c.begins in
    let ep : opcode (first h) ≡ p = ap opcode e ∙ opcode_control true p r.opcode_fits in
    form_as_law h true true c.ctl_is (ap seg e ∙ seg_control true p)
    ∙ sym
    (control_read h OfControl (kind_control p r ∙ ap opcode_kind (sym ep)) refl f (fields_read h true octet f 12 c i (sym z)) true (sym i.fits) refl)
    ∙ ap (λ (x : ℕ). Some (ControlSegment x f)) ep

pub acknowledgement_reads_back : AcknowledgementReadsBack
unfolding acknowledgement_octets opcode_kind
acknowledgement_reads_back h s z bits c l hz hb =
    let number = acknowledgement_number s z in
    let b = ack_back s z hz in
    let e : first h ≡ 0 = ap (λ (t : List ℕ). get_or t 0 0) c.begins in
    let eo : OfAcknowledgement ≡ opcode_kind (opcode (first h)) = sym (ap (λ (x : ℕ). opcode_kind (opcode x)) e) in
    form_as_law h true false c.ctl_is (ap seg e)
    ∙ sym
    (ack_read h OfAcknowledgement eo refl l number (two number bits c.behind b.small ∙ sym (ap acknowledged c.begins))
    bits (four number bits c.behind hb ∙ sym (ap block_ack c.begins)))
    ∙ cc (b.is_obo, b.is_seq_zero)
