-- Promises: what was written is read back. A header whose transport PDU begins with the octets that were written has their fields, where
-- these are in their ranges.
use Rattle.std.specs.Prelude.{Bool, true, false, Some, List, [], ◌∷◌, ◌++◌, ◌≡◌, ℕ, ◌^◌, ◌≤◌, ◌<◌}
use Rattle.network.specs.declared.header.Header.{Header}
use Rattle.transport.specs.declared.form.Form.TheVariants.{Access, AccessSegment, Control, ControlSegment, Acknowledgement}
use Rattle.transport.specs.declared.form.SegmentFields.{SegmentFields}
use Rattle.transport.specs.Form.{form_of}
use Rattle.transport.specs.Ranges.{InRange, KeyInRange, OpcodeInRange}
use Rattle.transport.specs.Segment.{access_octet, control_octet, segment_front, acknowledgement_octets}

-- the header has this CTL, and its transport PDU begins with these octets
pub record Carries (h : Header) (ctl : Bool) (octets : List ℕ) : Type 0 where
  pub behind : List ℕ
  pub ctl_is : h.ctl ≡ ctl
  pub begins : h.transport ≡ octets ++ behind

-- the four octets in front of a segment with these fields
abbrev pub front_of : ℕ → SegmentFields → List ℕ
front_of first f = segment_front first f.szmic f.seqzero f.sego f.segn

-- a whole access message
abbrev pub AccessReadsBack : Type 0
AccessReadsBack =
    (h : Header) (akf : Bool) (aid : ℕ)
    → Carries h false (access_octet false akf aid ∷ []) → KeyInRange akf aid h.dst → 6 ≤ h.len
    → form_of h ≡ Some (Access akf aid)

-- a segment of an access message
abbrev pub AccessSegmentReadsBack : Type 0
AccessSegmentReadsBack =
    (h : Header) (akf : Bool) (aid : ℕ) (f : SegmentFields)
    → Carries h false (front_of (access_octet true akf aid) f) → KeyInRange akf aid h.dst → InRange f h.len 16
    → form_of h ≡ Some (AccessSegment akf aid f)

-- a whole control message
abbrev pub ControlReadsBack : Type 0
ControlReadsBack =
    (h : Header) (opcode : ℕ)
    → Carries h true (control_octet false opcode ∷ []) → OpcodeInRange opcode
    → form_of h ≡ Some (Control opcode)

-- a segment of a control message
abbrev pub ControlSegmentReadsBack : Type 0
ControlSegmentReadsBack =
    (h : Header) (opcode : ℕ) (f : SegmentFields)
    → Carries h true (front_of (control_octet true opcode) f) → OpcodeInRange opcode → f.szmic ≡ false → InRange f h.len 12
    → form_of h ≡ Some (ControlSegment opcode f)

-- an acknowledgement
abbrev pub AcknowledgementReadsBack : Type 0
AcknowledgementReadsBack =
    (h : Header) (obo : Bool) (seq_zero bits : ℕ)
    → Carries h true (acknowledgement_octets obo seq_zero bits) → h.len ≡ 7 → seq_zero < 8192 → bits < 2 ^ 32
    → form_of h ≡ Some (Acknowledgement obo seq_zero bits)
