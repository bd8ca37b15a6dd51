-- The outgoing segmented message is sent chunk by chunk (document 01, "Sending").
--   segment_header o seg_o     the header of a segment
--   starting r element o buf   what beginning a message leaves
--   sending_segment r n buf    what sending a named segment leaves
use Rattle.std.specs.Prelude.{Bool, ◌&&◌, not, Option, None, Some, Result, Ok, Err, List, ℕ, ◌+◌, ◌-◌, ◌*◌, ◌%◌, eqb, leb, ltb, length, take, if◌then◌else◌}
use Rattle.common.specs.Bits.{has_bit}
use Rattle.common.specs.Chunks.{chunk}
use Rattle.common.specs.Lent.{Lent, lent}
use Rattle.common.specs.Lists.{padded}
use Rattle.network.specs.declared.header.Header.{Header}
use Rattle.network.specs.Pdu.{pdu_octets}
use Rattle.transport.specs.Segment.{full_octets, segment_at}
use Rattle.memory.specs.declared.outgoing.Outgoing.{Outgoing}
use Rattle.node.specs.declared.addresses.Node.{Node}
use Rattle.node.specs.Addresses.{is_local}
use Rattle.receiver.specs.declared.answer.Refusal.{Refusal}
use Rattle.receiver.specs.declared.answer.Refusal.TheVariants as refusal
use Rattle.receiver.specs.declared.state.Receiver.{Receiver}
use Rattle.receiver.specs.State.{with_outgoing}
use Rattle.sending.specs.declared.answer.Answer.TheVariants.{Started}
use Rattle.sending.specs.declared.answer.Spoken.{Spoken}
use Rattle.sending.specs.Answer.{refused_at, spoken}
use Rattle.sending.specs.Transmission.{next_seq, transmitted}

-- where the octets of segment SegO begin: every segment before it is full
abbrev pub chunk_place : Bool → ℕ → ℕ
chunk_place ctl seg_o = seg_o * full_octets ctl

-- the octets of segment SegO: chunks of 12, or of 8 for control
unfoldable pub outgoing_chunk : Outgoing → ℕ → List ℕ
outgoing_chunk o seg_o = chunk (full_octets o.terms.ctl) (take o.len o.bytes) seg_o

-- the transport PDU of segment SegO: SeqZero are the low 13 bits of SeqAuth
unfoldable pub segment_pdu : Outgoing → ℕ → List ℕ
segment_pdu o seg_o =
    segment_at (full_octets o.terms.ctl) o.terms.first o.terms.szmic (o.auth.seq % 8192) o.terms.segn (take o.len o.bytes) seg_o

-- TTL, key and IV Index are those of the start; SEQ and SRC are stamped on when it is sent
unfoldable pub segment_header : Outgoing → ℕ → Header
segment_header o seg_o =
    record {
      key = o.terms.key;
      iv = o.auth.iv;
      ctl = o.terms.ctl;
      ttl = o.ttl;
      seq = 0;
      src = 0;
      dst = o.terms.dst;
      len = length (segment_pdu o seg_o);
      transport = padded 16 (segment_pdu o seg_o);
    }

-- starting a segmented message sends segment 0; then the message is kept
abbrev pub started_as : Result ℕ Refusal → Receiver → Outgoing → Spoken
started_as (Ok len) r o = record { answer = Ok (Started len o.terms.segn); receiver = with_outgoing r o }
started_as (Err n) r o = refused_at r n

unfoldable pub starting : Receiver → ℕ → Outgoing → List ℕ → Lent Spoken
starting r element o buf =
    let t = transmitted r element (segment_header o 0) buf in
    lent (started_as t.answer.sent t.answer.receiver o) t.buffer

-- the number of the element that has a local address
abbrev pub element_at : Node → ℕ → ℕ
element_at node address = address - node.first

-- the number of the element that has an address, where one has
unfoldable pub element_of : Node → ℕ → Option ℕ
element_of node address = if is_local node address then Some (element_at node address) else None

-- a message is kept, the segment is one of it and not yet heard, and the SEQ is at most 8,191 after that of segment 0
unfoldable pub segment_allowed : Receiver → ℕ → ℕ → Bool
segment_allowed r element n =
    not (eqb r.out.src 0)
    && (leb n r.out.terms.segn && (leb n 31 && (not (has_bit r.out.heard n) && leb (next_seq r element) (r.out.auth.seq + 8191))))

-- 14 where no element began it, or the segment may not be sent; else it is sent, or 15
unfoldable pub sending_segment_from : Option ℕ → Receiver → ℕ → List ℕ → Lent Spoken
sending_segment_from None r n buf = lent (refused_at r refusal.OutsideRules) buf
sending_segment_from (Some element) r n buf =
    let t = transmitted r element (segment_header r.out n) buf in
    if segment_allowed r element n then lent (spoken t.answer) t.buffer else
    lent (refused_at r refusal.OutsideRules) buf

-- 16 before them
unfoldable pub sending_segment : Receiver → ℕ → List ℕ → Lent Spoken
sending_segment r n buf =
    if ltb (length buf) pdu_octets then lent (refused_at r refusal.ShortBuffer) buf else
    sending_segment_from (element_of r.node r.out.src) r n buf
