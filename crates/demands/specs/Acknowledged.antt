-- Demand 3, one step further: the acknowledgement that the receiver sends in a scene, heard by the speaker that keeps its message, reads as one with a bit for each segment come so far,
-- and marks exactly these as heard.
--   Speaker               the node that keeps the speech's message
--   Hears                 it hears the PDU
--   Marks                 what it answers, and what it keeps
--   AcknowledgementRead   the promise
use Rattle.std.specs.Prelude.{true, false, Ok, List, ◌∷◌, ◌++◌, ◌≡◌, ℕ, ◌≤◌, ◌<◌, eqb, length, if◌then◌else◌}
use Rattle.std.specs.Int.Bits.{bit_or}
use Rattle.common.specs.Bits.{all_bits}
use Rattle.network.specs.declared.header.Header.{Header}
use Rattle.network.specs.Candidates.{key_at, opens}
use Rattle.network.specs.Opening.{opening}
use Rattle.network.specs.Pdu.{pdu_octets}
use Rattle.transport.specs.Segment.{message_octets}
use Rattle.memory.specs.declared.outgoing.Effect.TheVariants.{Nothing, Marked, Completed}
use Rattle.memory.specs.declared.outgoing.Outgoing.{Outgoing}
use Rattle.memory.specs.Cache.{seen}
use Rattle.memory.specs.Outgoing.{no_outgoing, with_heard}
use Rattle.node.specs.declared.addresses.Node.{Node}
use Rattle.node.specs.declared.setup.Setup.{Setup}
use Rattle.node.specs.Addresses.{is_local}
use Rattle.receiver.specs.declared.answer.Answer.TheVariants.{Acknowledgement}
use Rattle.receiver.specs.declared.state.Receiver.{Receiver}
use Rattle.receiver.specs.Whole.{admission}
use Rattle.sending.specs.Transmission.{sending_iv}
use Rattle.demands.specs.Call.{Hear, Acknowledge, Heard, Outcome, step}
use Rattle.demands.specs.Interleaved.{Ask, Arrival, node_of, speech_at, come, Scene, behind, AskedOf}
use Rattle.demands.specs.ReadBack.{pdu_made}
use Rattle.demands.specs.Speech.{Speech, last_of}

-- a node with the receiver's network keys and IV Index; the speech is the message that it keeps
pub record Speaker (speaker : Receiver) (node : Node) (s : Speech) : Type 0 where
  pub networks_same : speaker.node.networks ≡ node.networks
  pub materials_same : speaker.node.materials ≡ node.materials
  pub iv_same : speaker.node.iv ≡ node.iv
  -- one of its elements speaks, to another node
  pub its_element : is_local speaker.node s.src ≡ true
  pub other_node : is_local speaker.node s.dst ≡ false
  pub src_kept : speaker.out.src ≡ s.src
  pub dst_kept : speaker.out.terms.dst ≡ s.dst
  pub auth_kept : speaker.out.auth ≡ s.auth
  pub segn_kept : speaker.out.terms.segn ≡ last_of node s

-- a PDU opens to a header
abbrev pub OpensTo : Receiver → List ℕ → Header → Type 0
OpensTo r pdu h = (opening r.node.materials r.node.networks r.node.iv pdu).opened ≡ Ok h

-- it hears a PDU that the node sealed by a network key: no key tried earlier opens it, it is not in the cache, and its replay entry is not newer or equal
pub record Hears (speaker : Receiver) (node : Node) (net : ℕ) (pdu fwd msg : List ℕ) : Type 0 where
  pub own_key_first : (j : ℕ) → j < net → (key_at node.materials j).nid ≡ (key_at node.materials net).nid → opens node.materials (sending_iv node) pdu j ≡ false
  pub new : (h : Header) → OpensTo speaker pdu h → seen speaker.cache h ≡ false
  pub admits : (h : Header) → OpensTo speaker pdu h → admission speaker.replay h ≡ Ok tt
  -- the buffers are not refused 16
  pub room_forward : pdu_octets ≤ length fwd
  pub room_message : message_octets ≤ length msg

-- an acknowledgement of a source with these bits was heard, where this message was kept
pub record Marks (out : Outgoing) (src bits : ℕ) (msg : List ℕ) (o : Outcome) : Type 0 where
  -- all is heard with them: no message is kept any more
  pub completes :
      bit_or out.heard bits ≡ all_bits out.terms.segn → (o.answer ≡ Heard (Ok (Acknowledgement src bits Completed))) × (o.receiver.out ≡ no_outgoing)
  -- else it is kept, with these marked besides those that were
  pub marks :
      (bit_or out.heard bits ≡ all_bits out.terms.segn → ⊥)
      → (o.answer ≡ Heard (Ok (Acknowledgement src bits (if eqb (bit_or out.heard bits) out.heard then Nothing else Marked))))
      × (o.receiver.out ≡ with_heard out (bit_or out.heard bits))
  -- an acknowledgement writes none of the message buffer
  pub message_stays : o.message ≡ msg

abbrev pub AcknowledgementRead : Type 0
AcknowledgementRead =
    (setup : Setup) (speeches : List Speech) (before : List Arrival) (net src k : ℕ) (buf msg : List ℕ) (later : List Arrival)
    → Scene setup speeches (before ++ record { event = Ask net src; forward = buf; message = msg } ∷ later)
    → AskedOf (node_of setup) speeches before net src k
    → (let s = speech_at speeches k in
    let o = step (behind setup speeches before) (Acknowledge net src buf) in
    -- a PDU was made
    o.made ≡ true
    → (speaker : Receiver) (fwd left : List ℕ) → Speaker speaker (node_of setup) s → Hears speaker (node_of setup) net (pdu_made o) fwd left
    → Marks speaker.out s.dst (come k before) left (step speaker (Hear (pdu_made o) fwd left)))
