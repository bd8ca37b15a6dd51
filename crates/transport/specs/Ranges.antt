-- The ranges of a transport PDU's fields, and the promise that a form which is not wrong keeps to them.
use Rattle.std.specs.Prelude.{Bool, true, false, Some, ◌≡◌, ℕ, ◌≤◌, ◌<◌}
use Rattle.network.specs.declared.header.Header.{Header}
use Rattle.transport.specs.declared.form.Form.{Form}
use Rattle.transport.specs.declared.form.Form.TheVariants.{Access, AccessSegment, Control, ControlSegment, Acknowledgement}
use Rattle.transport.specs.declared.form.SegmentFields.{SegmentFields}
use Rattle.transport.specs.Form.{key_fits, segment_fits, form_of}

-- SeqZero has 13 bits, SegN 5; SegO is at most SegN, and the segment of so many octets is full or the last
pub record InRange (f : SegmentFields) (n full : ℕ) : Type 0 where
  pub seq_zero_fits : f.seqzero < 8192
  pub seg_n_fits : f.segn < 32
  pub fits : segment_fits f.sego f.segn n full ≡ true

-- AID has 6 bits, and AKF 0 has AID 0 and a unicast DST
pub record KeyInRange (akf : Bool) (aid dst : ℕ) : Type 0 where
  pub aid_fits : aid < 64
  pub fits : key_fits akf aid dst ≡ true

-- an opcode of a control message is 0x01-0x7F
pub record OpcodeInRange (opcode : ℕ) : Type 0 where
  pub not_zero : 0x01 ≤ opcode
  pub opcode_fits : opcode ≤ 0x7F

-- what holds of a header that is read as this form
abbrev pub Kept : Header → Form → Type 0
Kept h (Access akf aid) = (h.ctl ≡ false) × KeyInRange akf aid h.dst × (6 ≤ h.len)
Kept h (AccessSegment akf aid f) = (h.ctl ≡ false) × KeyInRange akf aid h.dst × InRange f h.len 16
Kept h (Control opcode) = (h.ctl ≡ true) × OpcodeInRange opcode
Kept h (ControlSegment opcode f) = (h.ctl ≡ true) × OpcodeInRange opcode × InRange f h.len 12
Kept h (Acknowledgement obo seq_zero bits) = (h.ctl ≡ true) × (seq_zero < 8192) × (h.len ≡ 7)

-- each header keeps to the ranges of its form
abbrev pub KeepsToRanges : Type 0
KeepsToRanges = (h : Header) (f : Form) → form_of h ≡ Some f → Kept h f
