-- Sending a control message (document 01, "Sending"; document 02, W8): to an address, never to a label.
--   control_allowed r q opcode len              not 14
--   whole_header iv q dst opcode parameters     the header of one that goes in one PDU
--   outgoing_of r q opcode parameters           the message that is kept of one that goes in segments
--   sending_control r q opcode parameters buf   what a call leaves
use Rattle.std.specs.Prelude.{Bool, true, false, ◌&&◌, ◌||◌, List, ◌∷◌, ℕ, eqb, leb, ltb, length, if◌then◌else◌}
use Rattle.common.specs.Lent.{Lent, lent}
use Rattle.common.specs.Lists.{padded}
use Rattle.network.specs.declared.header.Header.{Header}
use Rattle.network.specs.Pdu.{pdu_octets}
use Rattle.transport.specs.Segment.{message_octets, control_octet, last_segment}
use Rattle.memory.specs.declared.outgoing.Outgoing.{Outgoing}
use Rattle.receiver.specs.declared.answer.Refusal.TheVariants as refusal
use Rattle.receiver.specs.declared.state.Receiver.{Receiver}
use Rattle.sending.specs.declared.answer.Spoken.{Spoken}
use Rattle.sending.specs.declared.request.Request.{Request}
use Rattle.sending.specs.Answer.{refused_at, spoken}
use Rattle.sending.specs.Request.{ttl_of, dst_of, to_address, request_allowed}
use Rattle.sending.specs.Segment.{starting}
use Rattle.sending.specs.Transmission.{sending_iv, address_of, next_seq, transmitted}

-- the destination is an address; opcode 0x01-0x7F; at most 11 parameters go whole, else at most 256 in segments, and one outgoing segmented message is kept
unfoldable pub control_allowed : Receiver → Request → ℕ → ℕ → Bool
control_allowed r q opcode len =
    request_allowed r.node q && (to_address q.dst && (leb 1 opcode && (leb opcode 0x7F && (leb len 256 && (leb len 11 || eqb r.out.src 0)))))

-- SEG 0, opcode; then the parameters. SEQ and SRC are stamped on when it is sent
unfoldable pub whole_header : ℕ → Request → ℕ → ℕ → List ℕ → Header
whole_header iv q dst opcode parameters =
    record {
      key = q.network;
      iv = iv;
      ctl = true;
      ttl = ttl_of q.ttl;
      seq = 0;
      src = 0;
      dst = dst;
      len = length (control_octet false opcode ∷ parameters);
      transport = padded 16 (control_octet false opcode ∷ parameters);
    }

-- the parameters, as they are kept: SeqAuth is the SEQ of segment 0
unfoldable pub outgoing_of : Receiver → Request → ℕ → List ℕ → Outgoing
outgoing_of r q opcode parameters =
    record {
      src = address_of r.node q.element;
      auth = record { iv = sending_iv r.node; seq = next_seq r q.element };
      terms =
          record {
            ctl = true;
            first = control_octet true opcode;
            szmic = false;
            segn = last_segment 8 (length parameters);
            dst = dst_of r.node q.dst;
            key = q.network;
          };
      ttl = ttl_of q.ttl;
      heard = 0;
      len = length parameters;
      bytes = padded message_octets parameters;
    }

-- it is sent whole or begun, or 15
unfoldable pub saying_control : Receiver → Request → ℕ → List ℕ → List ℕ → Lent Spoken
saying_control r q opcode parameters buf =
    let t = transmitted r q.element (whole_header (sending_iv r.node) q (dst_of r.node q.dst) opcode parameters) buf in
    if leb (length parameters) 11 then lent (spoken t.answer) t.buffer else
    starting r q.element (outgoing_of r q opcode parameters) buf

-- 16; 14; then it is said
unfoldable pub sending_control : Receiver → Request → ℕ → List ℕ → List ℕ → Lent Spoken
sending_control r q opcode parameters buf =
    if ltb (length buf) pdu_octets then lent (refused_at r refusal.ShortBuffer) buf else
    if control_allowed r q opcode (length parameters) then saying_control r q opcode parameters buf else
    lent (refused_at r refusal.OutsideRules) buf
