-- Sending an access message (document 01, "Sending"; document 02, W8). To a label it is secured with the label's octets as additional data.
--   access_allowed r q key szmic len           not 14
--   whole_header e q k additional payload      the header of one that goes in one PDU
--   outgoing_of e q k additional payload       the message that is kept of one that goes in segments
--   sending_access r q key szmic payload buf   what a call leaves
use Rattle.std.specs.Prelude.{Bool, true, false, ◌&&◌, ◌||◌, not, List, ◌∷◌, ℕ, min, eqb, leb, ltb, length, replicate, if◌then◌else◌}
use Rattle.common.specs.Lent.{Lent, lent}
use Rattle.common.specs.Lists.{padded}
use Rattle.network.specs.declared.header.Header.{Header}
use Rattle.network.specs.Pdu.{pdu_octets}
use Rattle.transport.specs.declared.securing.Envelope.{Envelope}
use Rattle.transport.specs.declared.securing.MessageKey.{MessageKey}
use Rattle.transport.specs.declared.securing.MessageKey.TheVariants.{Application, Device}
use Rattle.transport.specs.Securing.{application_key_places, application_key_at, secured}
use Rattle.transport.specs.Segment.{message_octets, access_octet, last_segment}
use Rattle.memory.specs.declared.outgoing.Outgoing.{Outgoing}
use Rattle.node.specs.declared.addresses.Node.{Node}
use Rattle.receiver.specs.declared.answer.Refusal.TheVariants as refusal
use Rattle.receiver.specs.declared.state.Receiver.{Receiver}
use Rattle.sending.specs.declared.access.KeyUsed.{KeyUsed}
use Rattle.sending.specs.declared.answer.Spoken.{Spoken}
use Rattle.sending.specs.declared.request.Request.{Request}
use Rattle.sending.specs.Answer.{refused_at, spoken}
use Rattle.sending.specs.Request.{ttl_of, dst_of, additional_for, to_unicast, request_allowed}
use Rattle.sending.specs.Segment.{starting}
use Rattle.sending.specs.Transmission.{sending_iv, address_of, next_seq, transmitted}

-- the key that a request names: AKF, AID and its octets; past the four places of application keys there is none
abbrev pub keyed : Node → MessageKey → KeyUsed
keyed node (Application i) =
    if ltb i application_key_places then record { akf = true; aid = (application_key_at node.appkeys i).aid; key = (application_key_at node.appkeys i).key } else
    record { akf = true; aid = 0; key = replicate 16 0 }
keyed node Device = record { akf = false; aid = 0; key = node.device }

-- an application key that is there, bound to the network key named; the device key needs a unicast address
abbrev pub key_allowed : Node → Request → MessageKey → Bool
key_allowed node q (Application i) = ltb i (min node.applications application_key_places) && eqb (application_key_at node.appkeys i).bound q.network
key_allowed node q Device = to_unicast q.dst

-- 1 to 11 octets with the 4-octet TransMIC go unsegmented
unfoldable pub is_whole : Bool → ℕ → Bool
is_whole szmic len = not szmic && leb len 11

-- a payload has an octet; at most 380, or 376 with 8 octets
unfoldable pub size_allowed : Bool → ℕ → Bool
size_allowed szmic len = leb 1 len && (if szmic then leb len 376 else leb len 380)

-- one outgoing segmented message is kept: another is refused
unfoldable pub access_allowed : Receiver → Request → MessageKey → Bool → ℕ → Bool
access_allowed r q key szmic len =
    request_allowed r.node q && (key_allowed r.node q key && (size_allowed szmic len && (is_whole szmic len || eqb r.out.src 0)))

-- what the second nonce rests on: the SEQ is the element's next, which of a segmented message is SeqAuth's
unfoldable pub envelope_of : Receiver → Request → KeyUsed → Bool → Envelope
envelope_of r q k szmic =
    record {
      network = q.network;
      akf = k.akf;
      aid = k.aid;
      szmic = szmic;
      iv = sending_iv r.node;
      seq = next_seq r q.element;
      src = address_of r.node q.element;
      dst = dst_of r.node q.dst;
    }

-- SEG 0, AKF, AID; then the secured message
unfoldable pub whole_pdu : Envelope → KeyUsed → List ℕ → List ℕ → List ℕ
whole_pdu e k additional payload = access_octet false k.akf k.aid ∷ secured k.key e additional payload

-- SEQ and SRC are stamped on when it is sent
unfoldable pub whole_header : Envelope → Request → KeyUsed → List ℕ → List ℕ → Header
whole_header e q k additional payload =
    record {
      key = q.network;
      iv = e.iv;
      ctl = false;
      ttl = ttl_of q.ttl;
      seq = 0;
      src = 0;
      dst = e.dst;
      len = length (whole_pdu e k additional payload);
      transport = padded 16 (whole_pdu e k additional payload);
    }

-- the secured message, as it is kept: its SeqAuth is the SEQ of segment 0
unfoldable pub outgoing_of : Envelope → Request → KeyUsed → List ℕ → List ℕ → Outgoing
outgoing_of e q k additional payload =
    let m = secured k.key e additional payload in
    record {
      src = e.src;
      auth = record { iv = e.iv; seq = e.seq };
      terms =
          record { ctl = false; first = access_octet true k.akf k.aid; szmic = e.szmic; segn = last_segment 12 (length m); dst = e.dst; key = q.network };
      ttl = ttl_of q.ttl;
      heard = 0;
      len = length m;
      bytes = padded message_octets m;
    }

-- it is sent whole or begun, or 15
unfoldable pub saying_access : Receiver → Request → MessageKey → Bool → List ℕ → List ℕ → Lent Spoken
saying_access r q key szmic payload buf =
    let k = keyed r.node key in
    let e = envelope_of r q k szmic in
    let additional = additional_for r.node q.dst in
    let t = transmitted r q.element (whole_header e q k additional payload) buf in
    if is_whole szmic (length payload) then lent (spoken t.answer) t.buffer else
    starting r q.element (outgoing_of e q k additional payload) buf

-- 16; 14; then it is said
unfoldable pub sending_access : Receiver → Request → MessageKey → Bool → List ℕ → List ℕ → Lent Spoken
sending_access r q key szmic payload buf =
    if ltb (length buf) pdu_octets then lent (refused_at r refusal.ShortBuffer) buf else
    if access_allowed r q key szmic (length payload) then saying_access r q key szmic payload buf else
    lent (refused_at r refusal.OutsideRules) buf
