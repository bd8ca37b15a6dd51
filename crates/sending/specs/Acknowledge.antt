-- Acknowledgements sent (document 01, "Transport"): the caller names the network key and the source.
-- The operations of the replay list are a parameter, `by`, so that a receiver with another list is these same definitions.
--   chosen replay sessions src        what is acknowledged
--   acknowledging r network src buf   what a call leaves
use Rattle.std.specs.Prelude.{true, false, Option, None, Some, List, ℕ, ◌%◌, min, eqb, ltb, length, if◌then◌else◌}
use Rattle.common.specs.Bits.{all_bits}
use Rattle.common.specs.Lent.{Lent, lent}
use Rattle.common.specs.Lists.{padded}
use Rattle.network.specs.declared.header.Header.{Header}
use Rattle.network.specs.Address.{is_unicast}
use Rattle.network.specs.Pdu.{pdu_octets}
use Rattle.network.specs.Candidates.{network_key_places}
use Rattle.transport.specs.Segment.{acknowledgement_octets}
use Rattle.memory.specs.declared.replay.Entry.{Entry}
use Rattle.memory.specs.declared.session.Session.{Session}
use Rattle.memory.specs.Replay.{Listing, ascending}
use Rattle.memory.specs.Session.{session_slots, session_at, session_place, block_ack}
use Rattle.receiver.specs.declared.answer.Refusal.TheVariants as refusal
use Rattle.receiver.specs.declared.state.Receiver.{Receiver}
use Rattle.sending.specs.declared.acknowledge.Chosen.{Chosen}
use Rattle.sending.specs.declared.answer.Spoken.{Spoken}
use Rattle.sending.specs.Answer.{refused_at, spoken}
use Rattle.sending.specs.Request.{unnamed_ttl}
use Rattle.sending.specs.Segment.{element_of}
use Rattle.sending.specs.Transmission.{sending_iv, transmitted}

-- the source's open session is acknowledged, else its last segmented message handed up, of which DST 0 marks that there is none
unfoldable pub chosen_by : Listing → List Entry → List Session → ℕ → Option Chosen
chosen_by by replay sessions src =
    let own = session_place sessions (record { src = src }) in
    let s = session_at sessions own in
    let last = (by.look_up replay src).last in
    if eqb src 0 then None else
    if ltb own session_slots then Some (record { auth = s.auth; dst = s.terms.dst; bits = block_ack s }) else
    if eqb last.dst 0 then None else
    Some (record { auth = last.auth; dst = last.dst; bits = all_bits last.segn })

abbrev pub chosen : List Entry → List Session → ℕ → Option Chosen
chosen replay sessions src = chosen_by ascending replay sessions src

-- CTL 1, the TTL left unnamed, OBO 0, SeqZero of its SeqAuth; SEQ and SRC are stamped on when it is sent
unfoldable pub acknowledgement_header : ℕ → ℕ → ℕ → Chosen → Header
acknowledgement_header iv network src c =
    record {
      key = network;
      iv = iv;
      ctl = true;
      ttl = unnamed_ttl;
      seq = 0;
      src = 0;
      dst = src;
      len = 7;
      transport = padded 16 (acknowledgement_octets false (c.auth.seq % 8192) c.bits);
    }

-- an element sends it
unfoldable pub saying_acknowledgement : Receiver → ℕ → ℕ → ℕ → Chosen → List ℕ → Lent Spoken
saying_acknowledgement r element network src c buf =
    let t = transmitted r element (acknowledgement_header (sending_iv r.node) network src c) buf in
    lent (spoken t.answer) t.buffer

-- 14 if its DST is no element's; else it is sent by the DST's element, or 15
unfoldable pub acknowledging_from : Option ℕ → Receiver → ℕ → ℕ → Chosen → List ℕ → Lent Spoken
acknowledging_from None r network src c buf = lent (refused_at r refusal.OutsideRules) buf
acknowledging_from (Some element) r network src c buf = saying_acknowledgement r element network src c buf

-- 14 if there is neither, or its DST is not unicast
unfoldable pub acknowledging_as : Option Chosen → Receiver → ℕ → ℕ → List ℕ → Lent Spoken
acknowledging_as None r network src buf = lent (refused_at r refusal.OutsideRules) buf
acknowledging_as (Some c) r network src buf =
    if is_unicast c.dst then acknowledging_from (element_of r.node c.dst) r network src c buf else
    lent (refused_at r refusal.OutsideRules) buf

-- 16; 14 if the key is not there; then these
unfoldable pub acknowledging_by : Listing → Receiver → ℕ → ℕ → List ℕ → Lent Spoken
acknowledging_by by r network src buf =
    if ltb (length buf) pdu_octets then lent (refused_at r refusal.ShortBuffer) buf else
    if ltb network (min r.node.networks network_key_places) then acknowledging_as (chosen_by by r.replay r.sessions src) r network src buf else
    lent (refused_at r refusal.OutsideRules) buf

abbrev pub acknowledging : Receiver → ℕ → ℕ → List ℕ → Lent Spoken
acknowledging r network src buf = acknowledging_by ascending r network src buf
