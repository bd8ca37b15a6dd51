-- Demand 1: a refusal carries its number and leaves the message buffer untouched; each leaves what document 01's table says and no more; a PDU that no
-- key opens changes nothing. For every receiver, not only those that setup makes, and all octets.
--   is_refused a                the answer is a refusal
--   Untouched r pdu message o   receiver and both buffers are what they were
--   Behind r h fwd n o          what a refusal behind the cache leaves
use Rattle.std.specs.Prelude.{Bool, true, false, Result, Ok, Err, ◌&&◌, ◌||◌, List, ◌≡◌, ℕ, eqb, leb, if◌then◌else◌}
use Rattle.common.specs.Lent.{lent}
use Rattle.network.specs.declared.header.Header.{Header}
use Rattle.network.specs.declared.opening.Refusal as network_refusal
use Rattle.network.specs.declared.opening.Refusal.TheVariants as network
use Rattle.network.specs.Opening.{opening}
use Rattle.transport.specs.Form.{form_of, is_segment}
use Rattle.memory.specs.Cache.{remembered}
use Rattle.memory.specs.Session.{no_session, slot_for}
use Rattle.receiver.specs.declared.state.Receiver.{Receiver}
use Rattle.receiver.specs.Hearing.{relayed, hearing}
use Rattle.receiver.specs.State.{with_cache, with_session}
use Rattle.demands.specs.Answers.{number_of}
use Rattle.demands.specs.Call.{Call, lent_for, message_for, Answer, Outcome, left_heard, step}

-- the answer is a refusal: it has a number
abbrev pub is_refused : Answer → Bool
is_refused a = leb 1 (number_of a)

-- receiver and both buffers are what they were, and no PDU was made or forwarded
pub record Untouched (r : Receiver) (pdu message : List ℕ) (o : Outcome) : Type 0 where
  pub receiver_stays : o.receiver ≡ r
  pub pdu_stays : o.pdu ≡ pdu
  pub message_stays : o.message ≡ message
  pub none_made : o.made ≡ false
  pub no_octets : o.octets ≡ 0

-- a refusal leaves the message buffer untouched
abbrev pub MessageStays : Type 0
MessageStays = (r : Receiver) (c : Call) → is_refused (step r c).answer ≡ true → (step r c).message ≡ message_for c

-- refusals 16, 1 to 5, 22, 14 and 15 leave everything
abbrev pub leaves_everything : ℕ → Bool
leaves_everything n = leb 1 n && (leb 14 n || leb n 5)

-- so does every call that is refused one of them
abbrev pub EverythingStays : Type 0
EverythingStays = (r : Receiver) (c : Call) → leaves_everything (number_of (step r c).answer) ≡ true → Untouched r (lent_for c) (message_for c) (step r c)

-- no key opens a PDU: refusals 1, 2 and 3 of its opening
abbrev pub no_key_opens : Result Header network_refusal.Refusal → Bool
no_key_opens (Ok h) = false
no_key_opens (Err network.WrongLength) = true
no_key_opens (Err network.NoCandidate) = true
no_key_opens (Err network.NotAuthentic) = true
no_key_opens (Err network.WrongAddress) = false

-- it changes nothing
abbrev pub UnopenedLeaves : Type 0
UnopenedLeaves =
    (r : Receiver) (pdu fwd msg : List ℕ) → no_key_opens (opening r.node.materials r.node.networks r.node.iv pdu).opened ≡ true
    → Untouched r fwd msg (left_heard (hearing r pdu fwd msg))

-- ---- behind the cache
-- the receiver with the PDU of a header in its cache, by its SRC, SEQ and IV Index
abbrev pub cached : Receiver → Header → Receiver
cached r h = with_cache r (remembered r.cache h)

-- what refusal n leaves of the receiver q that has cached the PDU: it; 13 of a segment frees the completed session, its source's own or the one that this segment opened
abbrev pub left_behind : Receiver → Header → ℕ → Receiver
left_behind q h n =
    if eqb n 13 && is_segment (form_of h) then with_session q (slot_for q.sessions (record { src = h.src })) no_session else
    q

-- cached, perhaps forwarded: so many octets of the forward buffer
pub record Behind (r : Receiver) (h : Header) (fwd : List ℕ) (n : ℕ) (o : Outcome) : Type 0 where
  pub receiver_left : o.receiver ≡ left_behind (cached r h) h n
  pub forwarded_as : lent o.octets o.pdu ≡ relayed r.node h fwd

-- refusals 6 to 13 are of a PDU that opens to a header, and leave that, and nothing else
abbrev pub LateLeaves : Type 0
LateLeaves =
    (r : Receiver) (pdu fwd msg : List ℕ)
    → (let o = left_heard (hearing r pdu fwd msg) in
    let n = number_of o.answer in
    leb 6 n && leb n 13 ≡ true
    → (h : Header) × ((opening r.node.materials r.node.networks r.node.iv pdu).opened ≡ Ok h) × Behind r h fwd n o)
