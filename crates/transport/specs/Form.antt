-- What a transport PDU is, by CTL and its octets, and exactly when its form is wrong, refusal 7 (document 01, "Transport").
--   key_fits akf aid dst              AKF 0 needs AID 0 and a unicast DST
--   segment_fits seg_o seg_n n full   what a segment of n octets must be
--   fields_in t                       the fields of a segment's octets
--   fields_of h                       which segment of which message it is
--   form_of h                         the form of an opened header's transport PDU
--   is_segment f                      it is a segment of a longer message
--   paper f                           how a form is given; PaperApart: no two alike
use Rattle.std.specs.Prelude.{Bool, true, false, not, ◌&&◌, ◌||◌, List, [], ◌∷◌, Option, Some, None, ℕ, ◌+◌, eqb, leb, get_or, if◌then◌else◌}
use Rattle.common.specs.Paper.{Paper, Refusal, Given, bit, ToldApart}
use Rattle.network.specs.declared.header.Header.{Header}
use Rattle.network.specs.Address.{is_unicast}
use Rattle.transport.specs.declared.form.Form.{Form}
use Rattle.transport.specs.declared.form.Form.TheVariants.{Access, AccessSegment, Control, ControlSegment, Acknowledgement}
use Rattle.transport.specs.declared.form.SegmentFields.{SegmentFields}
use Rattle.transport.specs.declared.opcode.OpcodeKind.{OpcodeKind}
use Rattle.transport.specs.declared.opcode.OpcodeKind.TheVariants.{OfAcknowledgement, OfControl, NoOpcode}
use Rattle.transport.specs.Opcode.{opcode_kind}
use Rattle.transport.specs.Fields.{seg, akf, aid, opcode, fields_number, szmic, seq_zero, seg_o, seg_n, acknowledged, obo, seq_zero_heard, block_ack}
use Rattle.transport.specs.Segment.{full_octets}

-- AKF 0 needs AID 0 and a unicast DST
unfoldable pub key_fits : Bool → ℕ → ℕ → Bool
key_fits akf aid dst = akf || (eqb aid 0 && is_unicast dst)

-- four octets and at least one behind them; SegO is at most SegN; every segment but the last is full
unfoldable pub segment_fits : ℕ → ℕ → ℕ → ℕ → Bool
segment_fits seg_o seg_n n full = leb 5 n && (leb seg_o seg_n && (eqb seg_o seg_n || eqb n full))

-- SZMIC or RFU bit, SeqZero, SegO, SegN
abbrev pub fields_in : List ℕ → SegmentFields
fields_in t =
    let n = fields_number t in
    record { szmic = szmic n; seqzero = seq_zero n; sego = seg_o n; segn = seg_n n }

-- SZMIC, of a control segment an RFU bit that is ignored; SeqZero, SegO, SegN
unfoldable pub fields_of : Header → SegmentFields
fields_of h =
    let n = fields_number h.transport in
    record { szmic = not h.ctl && szmic n; seqzero = seq_zero n; sego = seg_o n; segn = seg_n n }

-- octet 0
abbrev pub first : Header → ℕ
first h = get_or h.transport 0 0

-- SEG 0, AKF, AID; then at least 5 octets
unfoldable pub access_form : Header → Option Form
access_form h =
    if leb 6 h.len && key_fits (akf (first h)) (aid (first h)) h.dst then Some (Access (akf (first h)) (aid (first h))) else
    None

-- SEG 1, AKF, AID; SZMIC, SeqZero, SegO, SegN; full with 12 octets behind them
unfoldable pub access_segment_form : Header → Option Form
access_segment_form h =
    let f = fields_of h in
    if key_fits (akf (first h)) (aid (first h)) h.dst && segment_fits f.sego f.segn h.len (4 + full_octets false) then
    Some (AccessSegment (akf (first h)) (aid (first h)) f) else
    None

-- opcode 0: OBO, SeqZero, 2 RFU bits, BlockAck, 7 octets in all; opcode 0x01-0x7F: never wrong
unfoldable pub control_as : OpcodeKind → Header → Option Form
control_as OfAcknowledgement h =
    let n = acknowledged h.transport in
    if eqb h.len 7 then Some (Acknowledgement (obo n) (seq_zero_heard n) (block_ack h.transport)) else
    None
control_as OfControl h = Some (Control (opcode (first h)))
control_as NoOpcode h = None

-- SEG 0, opcode
unfoldable pub control_form : Header → Option Form
control_form h = control_as (opcode_kind (opcode (first h))) h

-- opcode 0x01-0x7F; RFU bit, SeqZero, SegO, SegN; full with 8 octets behind them
unfoldable pub control_segment_as : OpcodeKind → Header → Option Form
control_segment_as OfAcknowledgement h = None
control_segment_as OfControl h =
    let f = fields_of h in
    if segment_fits f.sego f.segn h.len (4 + full_octets true) then Some (ControlSegment (opcode (first h)) f) else
    None
control_segment_as NoOpcode h = None

-- SEG 1, opcode
unfoldable pub control_segment_form : Header → Option Form
control_segment_form h = control_segment_as (opcode_kind (opcode (first h))) h

-- control or access by CTL, a segment or whole by SEG
abbrev pub form_as : Bool → Bool → Header → Option Form
form_as true true h = control_segment_form h
form_as true false h = control_form h
form_as false true h = access_segment_form h
form_as false false h = access_form h

-- the form of an opened header's transport PDU
unfoldable pub form_of : Header → Option Form
form_of h = form_as h.ctl (seg (first h)) h

-- a segment of a longer message
abbrev pub is_segment : Option Form → Bool
is_segment (Some (Access akf aid)) = false
is_segment (Some (AccessSegment akf aid f)) = true
is_segment (Some (Control opcode)) = false
is_segment (Some (ControlSegment opcode f)) = true
is_segment (Some (Acknowledgement obo seq_zero bits)) = false
is_segment None = false

-- this paper's number and values of each form: a wrong one is refusal 7
pub data Word : Type 0 where
  access access-segment control control-segment acknowledgement : Word

abbrev pub field_values : SegmentFields → List ℕ
field_values f = bit f.szmic ∷ f.seqzero ∷ f.sego ∷ f.segn ∷ []

abbrev pub paper : Option Form → Paper Word
paper (Some (Access akf aid)) = Given access (bit akf ∷ aid ∷ [])
paper (Some (AccessSegment akf aid f)) = Given access-segment (bit akf ∷ aid ∷ field_values f)
paper (Some (Control opcode)) = Given control (opcode ∷ [])
paper (Some (ControlSegment opcode f)) = Given control-segment (opcode ∷ field_values f)
paper (Some (Acknowledgement obo seq_zero bits)) = Given acknowledgement (bit obo ∷ seq_zero ∷ bits ∷ [])
paper None = Refusal 7 []

abbrev pub PaperApart : Type 0
PaperApart = ToldApart paper
