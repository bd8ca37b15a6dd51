-- Demand 3: at most eight senders, one segmented message each, segments in any order and mixture with repeats, PDUs that no key opens, requests to acknowledge and what the receiver
-- itself sends. Each message is handed up exactly once, when its last missing segment comes; each acknowledgement names exactly the segments come so far; messages and replay entries
-- end as if the senders had spoken one after another, no session open.
--   Arrival, call_of   what comes, and the call that hears or acknowledges it, or is the receiver's own
--   come k l           the segments of speech k among l, a bit each (`ComeNames`)
--   is_last_missing    a segment is the last of its speech that was missing
--   Scene              the premises
--   HandedUp           1: where a message is handed up
--   Answered           every answer to a segment, and to a PDU that no key opens
--   Acknowledges       2: what an acknowledgement names, and when there is none
--   EndsAlike          3: what is left at the end
use Rattle.std.specs.Prelude.{Err, Ok, Bool, true, false, ◌&&◌, ◌||◌, not, List, [], ◌∷◌, ◌++◌, map, ◌⊎◌, ◌≡◌, ℕ, zero, suc, ◌≤◌, ◌<◌, eqb, length, get_or, take, if◌then◌else◌}
use Rattle.common.specs.Bits.{has_bit, with_bit, all_bits}
use Rattle.common.specs.Lent.{lent}
use Rattle.common.specs.Lists.{onto}
use Rattle.common.specs.Paper.{number_of}
use Rattle.common.specs.Search.{picked}
use Rattle.network.specs.Address.{is_unicast}
use Rattle.network.specs.Opening as opened
use Rattle.network.specs.Opening.{opening}
use Rattle.network.specs.SealOpen as network
use Rattle.network.specs.Pdu.{pdu_octets}
use Rattle.transport.specs.LeadsBack.{SegmentOf}
use Rattle.transport.specs.Segment.{message_octets}
use Rattle.memory.specs.Replay.{no_entry, look_up}
use Rattle.memory.specs.Session.{no_sessions}
use Rattle.node.specs.declared.addresses.Node.{Node}
use Rattle.node.specs.declared.setup.Setup.{Setup}
use Rattle.node.specs.Addresses.{is_local}
use Rattle.receiver.specs.declared.answer.Answer as heard_answer
use Rattle.receiver.specs.declared.answer.Answer.TheVariants as answer
use Rattle.receiver.specs.declared.answer.Refusal.{Refusal}
use Rattle.receiver.specs.declared.answer.Refusal.TheVariants as refusal
use Rattle.receiver.specs.declared.state.Receiver.{Receiver}
use Rattle.receiver.specs.Answer.{refusal_number}
use Rattle.receiver.specs.Fresh.{setting_up}
use Rattle.receiver.specs.Hearing.{outcome, refused_heard}
use Rattle.sending.specs.Acknowledge.{acknowledging, saying_acknowledgement}
use Rattle.sending.specs.Answer.{refused_at}
use Rattle.sending.specs.Segment.{element_at}
use Rattle.sending.specs.Transmission.{next_seq}
use Rattle.demands.specs.Call.{Call, Hear, GiveUp, SendAccess, SendControl, SendSegment, Acknowledge, Stop, Answer, Heard, Said, Ended, Outcome, left_heard, step, run, after}
use Rattle.demands.specs.Refusal.{no_key_opens}
use Rattle.demands.specs.Speech.{Control, Speech, last_of, header_of, segment_pdu, Speakable, Handed, hand_up, network_place, application_place}

-- ---- a fresh receiver
abbrev pub start : Setup → Receiver
start setup = (setting_up setup).receiver

abbrev pub node_of : Setup → Node
node_of setup = (start setup).node

-- ---- what comes
pub data Event : Type 0 where
  -- segment i of speech k, sent with sequence number seq and arriving with a TTL
  Segment : (k i seq ttl : ℕ) → Event
  -- a PDU that no key opens
  Foreign : (pdu : List ℕ) → Event
  -- a request to acknowledge a source over a network key
  Ask : (net src : ℕ) → Event
  -- the receiver sends, or gives up what it sends
  Own : (c : Call) → Event

-- with the buffers that the call is lent: the first for a PDU, the second for a message; the receiver's own call has its own
pub record Arrival : Type 0 where
  pub event : Event
  pub forward : List ℕ
  pub message : List ℕ

-- speech number k
abbrev pub none : Speech
none = record { src = 0; dst = 0; label = []; network = 0; auth = record { iv = 0; seq = 0 }; words = Control 0 [] }

abbrev pub speech_at : List Speech → ℕ → Speech
speech_at speeches k = get_or speeches k none

abbrev pub call_as : Node → List Speech → Event → List ℕ → List ℕ → Call
call_as node speeches (Segment k i seq ttl) fwd msg = Hear (segment_pdu node (speech_at speeches k) i seq ttl) fwd msg
call_as node speeches (Foreign pdu) fwd msg = Hear pdu fwd msg
call_as node speeches (Ask net src) fwd msg = Acknowledge net src fwd
call_as node speeches (Own c) fwd msg = c

abbrev pub call_of : Node → List Speech → Arrival → Call
call_of node speeches a = call_as node speeches a.event a.forward a.message

abbrev pub calls : Node → List Speech → List Arrival → List Call
calls node speeches l = map (call_of node speeches) l

-- ---- which segments have come
abbrev pub come_with : ℕ → ℕ → Event → ℕ
come_with k bits (Segment j i seq ttl) = if eqb j k then with_bit bits i else bits
come_with k bits (Foreign pdu) = bits
come_with k bits (Ask net src) = bits
come_with k bits (Own c) = bits

abbrev pub come_from : ℕ → ℕ → List Arrival → ℕ
come_from k bits [] = bits
come_from k bits (a ∷ l) = come_from k (come_with k bits a.event) l

abbrev pub come : ℕ → List Arrival → ℕ
come k l = come_from k 0 l

-- whether segment i of speech k is among them
abbrev pub is_segment : ℕ → ℕ → Event → Bool
is_segment k i (Segment j n seq ttl) = eqb j k && eqb n i
is_segment k i (Foreign pdu) = false
is_segment k i (Ask net src) = false
is_segment k i (Own c) = false

abbrev pub among : ℕ → ℕ → List Arrival → Bool
among k i [] = false
among k i (a ∷ l) = is_segment k i a.event || among k i l

-- the bits name exactly those
abbrev pub ComeNames : Type 0
ComeNames = (k i : ℕ) (l : List Arrival) → i < 32 → has_bit (come k l) i ≡ among k i l

-- segment i of a speech with this SegN is the last that was missing
abbrev pub is_last_missing : ℕ → ℕ → ℕ → Bool
is_last_missing bits i seg_n = not (has_bit bits i) && eqb (with_bit bits i) (all_bits seg_n)

-- ---- the premises
-- which segment of speech k was sent with a sequence number: one sender spends a number on one segment only
abbrev pub Spent : Type 0
Spent = ℕ → ℕ → ℕ

pub record Sent (node : Node) (speeches : List Speech) (spent : Spent) (k i seq ttl : ℕ) : Type 0 where
  pub one_of : k < length speeches
  pub segment_there : i ≤ last_of node (speech_at speeches k)
  pub number_spent : i ≡ spent k seq
  -- from SeqAuth to SeqAuth + 8,191
  pub in_time : SegmentOf (speech_at speeches k).auth.seq seq
  -- SEQ has 24 bits, and TTL 7
  pub seq_fits : seq ≤ 0xFFFFFF
  pub ttl_fits : ttl ≤ 127
  -- no key tried earlier opens it
  pub own_key_first :
      network.Receives node.materials node.networks node.iv (header_of node (speech_at speeches k) i seq ttl) (segment_pdu node (speech_at speeches k) i seq ttl)

-- a call that sends a message or a segment, or gives up the outgoing message: not one that hears, gives up a session or acknowledges
abbrev pub is_own : Call → Bool
is_own (Hear pdu fwd msg) = false
is_own (GiveUp src) = false
is_own (SendAccess q key szmic payload buf) = true
is_own (SendControl q opcode parameters buf) = true
is_own (SendSegment n buf) = true
is_own (Acknowledge net src buf) = false
is_own Stop = true

abbrev pub Comes : Node → List Speech → Spent → Event → Type 0
Comes node speeches spent (Segment k i seq ttl) = Sent node speeches spent k i seq ttl
Comes node speeches spent (Foreign pdu) = no_key_opens (opening node.materials node.networks node.iv pdu).opened ≡ true
Comes node speeches spent (Ask net src) = Unit {0}
Comes node speeches spent (Own c) = is_own c ≡ true

pub record Arrives (node : Node) (speeches : List Speech) (spent : Spent) (a : Arrival) : Type 0 where
  pub comes : Comes node speeches spent a.event
  -- the buffers are not refused 16
  pub room_forward : pdu_octets ≤ length a.forward
  pub room_message : message_octets ≤ length a.message

abbrev pub Each : {A : Type 0} → (A → Type 0) → List A → Type 0
Each P [] = Unit {0}
Each P (x ∷ l) = P x × Each P l

-- a fresh receiver, its speakers, and what comes
pub record Scene (setup : Setup) (speeches : List Speech) (l : List Arrival) : Type 0 where
  pub ready : (setting_up setup).answer ≡ Ok tt
  pub eight_at_most : length speeches ≤ 8
  pub speakable : (k : ℕ) → k < length speeches → Speakable (node_of setup) (speech_at speeches k)
  pub sources_differ :
      (j k : ℕ) → j < length speeches → k < length speeches → (speech_at speeches j).src ≡ (speech_at speeches k).src → j ≡ k
  -- they are other nodes
  pub others : (k : ℕ) → k < length speeches → is_local (node_of setup) (speech_at speeches k).src ≡ false
  pub spent : Spent
  pub arrives : Each (Arrives (node_of setup) speeches spent) l

-- each segment of each speech occurs
abbrev pub AllCome : Setup → List Speech → List Arrival → Type 0
AllCome setup speeches l = (k i : ℕ) → k < length speeches → i ≤ last_of (node_of setup) (speech_at speeches k) → has_bit (come k l) i ≡ true

-- ---- 1: the answer to an arrival hands up a message exactly where that arrival brings its last missing segment
abbrev pub handed_as : Answer → List ℕ → List Handed
handed_as (Heard (Err n)) msg = []
handed_as (Heard (Ok (answer.Stored src auth bits))) msg = []
handed_as (Heard (Ok (answer.Repeated src auth bits))) msg = []
handed_as (Heard (Ok (answer.Access src dst net key pair len))) msg = record { answer = answer.Access src dst net key pair len; octets = take len msg } ∷ []
handed_as (Heard (Ok (answer.Control src dst net opcode pair len))) msg = record { answer = answer.Control src dst net opcode pair len; octets = take len msg } ∷ []
handed_as (Heard (Ok (answer.Acknowledgement src bits effect))) msg = []
handed_as (Said a) msg = []
handed_as (Ended a) msg = []

-- what a call hands up: its answer, with as many octets of the message buffer as it tells
abbrev pub handed : Outcome → List Handed
handed o = handed_as o.answer o.message

-- a segment was stored
abbrev pub is_stored : Answer → Bool
is_stored (Heard (Err n)) = false
is_stored (Heard (Ok (answer.Stored src auth bits))) = true
is_stored (Heard (Ok (answer.Repeated src auth bits))) = false
is_stored (Heard (Ok (answer.Access src dst net key pair len))) = false
is_stored (Heard (Ok (answer.Control src dst net opcode pair len))) = false
is_stored (Heard (Ok (answer.Acknowledgement src bits effect))) = false
is_stored (Said a) = false
is_stored (Ended a) = false

abbrev pub due_as : Node → List Speech → List Arrival → Event → List Handed
due_as node speeches before (Segment k i seq ttl) =
    if is_last_missing (come k before) i (last_of node (speech_at speeches k)) then hand_up node (speech_at speeches k) ∷ [] else
    []
due_as node speeches before (Foreign pdu) = []
due_as node speeches before (Ask net src) = []
due_as node speeches before (Own c) = []

-- the receiver behind a list of arrivals
abbrev pub behind : Setup → List Speech → List Arrival → Receiver
behind setup speeches l = after (start setup) (calls (node_of setup) speeches l)

abbrev pub HandedUp : Type 0
HandedUp =
    (setup : Setup) (speeches : List Speech) (before : List Arrival) (a : Arrival) (later : List Arrival)
    → Scene setup speeches (before ++ a ∷ later)
    → handed (step (behind setup speeches before) (call_of (node_of setup) speeches a)) ≡ due_as (node_of setup) speeches before a.event

-- the answer to segment i of a speech, of which these have come
pub record SegmentAnswered (node : Node) (s : Speech) (bits i : ℕ) (msg : List ℕ) (o : Outcome) : Type 0 where
  -- it is new, and another is missing: stored, with a bit for each that has come
  pub stored :
      has_bit bits i ≡ false → eqb (with_bit bits i) (all_bits (last_of node s)) ≡ false → o.answer ≡ Heard (Ok (answer.Stored s.src s.auth (with_bit bits i)))
  -- it is the last that was missing: the message is handed up
  pub completes : is_last_missing bits i (last_of node s) ≡ true → o.answer ≡ Heard (Ok (hand_up node s).answer)
  -- it had come: a repeat, or 5 where the PDU is in the cache
  pub repeats :
      has_bit bits i ≡ true
      → (o.answer ≡ Heard (Ok (answer.Repeated s.src s.auth bits))) ⊎ (o.answer ≡ Heard (Err refusal.Cached))
  -- a message handed up fills the first octets of the message buffer, and the rest stays; a stored segment or a repeat writes none of it
  pub message_is : o.message ≡ (if is_last_missing bits i (last_of node s) then onto (hand_up node s).octets msg else msg)
  -- its network key is tried at its place, and application keys where the message is handed up
  pub tried_is :
      o.tried
      ≡ record { network = network_place node s; application = if is_last_missing bits i (last_of node s) then application_place node s s.words else 0 }

-- the answer to a PDU that no key opens: 1, 2 or 3 as its opening says, with its trials; it leaves everything
abbrev pub ForeignAnswered : Node → Receiver → (pdu fwd msg : List ℕ) → Outcome → Type 0
ForeignAnswered node r pdu fwd msg o =
    let x = opening node.materials node.networks node.iv pdu in
    (n : Refusal) × (refusal_number n ≡ number_of (opened.paper x.opened)) × (o ≡ left_heard (outcome (refused_heard r n x.trials) fwd msg))

-- the answer to an event, where these segments of each speech have come; what is no PDU hands up nothing
abbrev pub AnsweredAs : Node → List Speech → (ℕ → ℕ) → Receiver → Event → (fwd msg : List ℕ) → Outcome → Type 0
AnsweredAs node speeches filled r (Segment k i seq ttl) fwd msg o = SegmentAnswered node (speech_at speeches k) (filled k) i msg o
AnsweredAs node speeches filled r (Foreign pdu) fwd msg o = ForeignAnswered node r pdu fwd msg o
AnsweredAs node speeches filled r (Ask net src) fwd msg o = handed o ≡ []
AnsweredAs node speeches filled r (Own c) fwd msg o = handed o ≡ []

abbrev pub Answered : Type 0
Answered =
    (setup : Setup) (speeches : List Speech) (before : List Arrival) (a : Arrival) (later : List Arrival)
    → Scene setup speeches (before ++ a ∷ later)
    → (let r = behind setup speeches before in
    AnsweredAs (node_of setup) speeches (λ k. come k before) r a.event a.forward a.message (step r (call_of (node_of setup) speeches a)))

-- ---- 2: a request to acknowledge, whenever it comes, is answered by the acknowledgement that names exactly the segments come so far, or refused
-- it is for speech k: that is its source's, a segment of it has come, its DST is unicast, and the network key is there
pub record AskedOf (node : Node) (speeches : List Speech) (before : List Arrival) (net src k : ℕ) : Type 0 where
  pub one_of : k < length speeches
  pub its_source : src ≡ (speech_at speeches k).src
  pub some_come : come k before ≡ 0 → ⊥
  pub to_unicast_law : is_unicast (speech_at speeches k).dst ≡ true
  pub key_there : net < node.networks

-- the answer to a request, lent this buffer
pub record AskAnswered (node : Node) (speeches : List Speech) (before : List Arrival) (r : Receiver) (net src : ℕ) (buf : List ℕ) : Type 0 where
  -- a bit for each segment come so far, sent by the element that the speech was said to
  pub names :
      (k : ℕ) → AskedOf node speeches before net src k
      → (let s = speech_at speeches k in
      acknowledging r net src buf
      ≡ saying_acknowledgement r (element_at node s.dst) net src (record { auth = s.auth; dst = s.dst; bits = come k before }) buf)
  -- and it goes out where a SEQ is left
  pub goes_out :
      (k : ℕ) → AskedOf node speeches before net src k → next_seq r (element_at node (speech_at speeches k).dst) ≤ 0xFFFFFF
      → (step r (Acknowledge net src buf)).made ≡ true
  -- 14 where it is for none, and it leaves everything
  pub refuses : ((k : ℕ) → AskedOf node speeches before net src k → ⊥) → acknowledging r net src buf ≡ lent (refused_at r refusal.OutsideRules) buf

abbrev pub Acknowledges : Type 0
Acknowledges =
    (setup : Setup) (speeches : List Speech) (before : List Arrival) (net src : ℕ) (fwd msg : List ℕ) (later : List Arrival)
    → Scene setup speeches (before ++ record { event = Ask net src; forward = fwd; message = msg } ∷ later)
    → AskAnswered (node_of setup) speeches before (behind setup speeches before) net src fwd

-- ---- 3: at the end no session is open, and replay entries and messages are those of the speeches heard one after another
-- the arrivals of speech k
abbrev pub of_speech : ℕ → Event → Bool
of_speech k (Segment j i seq ttl) = eqb j k
of_speech k (Foreign pdu) = false
of_speech k (Ask net src) = false
of_speech k (Own c) = false

abbrev pub arrivals_of : ℕ → List Arrival → List Arrival
arrivals_of k l = picked (λ a. of_speech k a.event) l

-- those of the first n speeches, one speech after another
abbrev pub in_turn : ℕ → List Arrival → List Arrival
in_turn zero l = []
in_turn (suc n) l = in_turn n l ++ arrivals_of n l

-- all that a run hands up of a source
abbrev pub source_of : heard_answer.Answer → ℕ
source_of (answer.Stored src auth bits) = src
source_of (answer.Repeated src auth bits) = src
source_of (answer.Access src dst net key pair len) = src
source_of (answer.Control src dst net opcode pair len) = src
source_of (answer.Acknowledgement src bits effect) = src

abbrev pub messages : ℕ → List Outcome → List Handed
messages src [] = []
messages src (o ∷ l) = picked (λ m. eqb (source_of m.answer) src) (handed o) ++ messages src l

-- what is heard one speech after another
abbrev pub turns : List Speech → List Arrival → List Arrival
turns speeches l = in_turn (length speeches) l

pub record Alike (setup : Setup) (speeches : List Speech) (l : List Arrival) : Type 0 where
  pub no_session_law : (behind setup speeches l).sessions ≡ no_sessions
  -- each source's replay entry is its message's SeqAuth, and that message is remembered as the last
  pub entries_are :
      (k : ℕ) → k < length speeches
      → (let s = speech_at speeches k in
      look_up (behind setup speeches l).replay s.src
      ≡ record { src = s.src; pair = s.auth; last = record { auth = s.auth; segn = last_of (node_of setup) s; dst = s.dst } })
  -- no other source has one
  pub entries_none :
      (src : ℕ) → (src ≡ 0 → ⊥) → ((k : ℕ) → k < length speeches → src ≡ (speech_at speeches k).src → ⊥)
      → look_up (behind setup speeches l).replay src ≡ no_entry
  -- and every source's is that of the speeches heard in turn
  pub entries_alike :
      (src : ℕ) → (src ≡ 0 → ⊥)
      → look_up (behind setup speeches l).replay src ≡ look_up (behind setup speeches (turns speeches l)).replay src
  -- one message of each source, and it is the same
  pub once :
      (k : ℕ) → k < length speeches
      → messages (speech_at speeches k).src (run (start setup) (calls (node_of setup) speeches l)) ≡ hand_up (node_of setup) (speech_at speeches k) ∷ []
  pub once_in_turn :
      (k : ℕ) → k < length speeches
      → messages (speech_at speeches k).src (run (start setup) (calls (node_of setup) speeches (turns speeches l))) ≡ hand_up (node_of setup) (speech_at speeches k) ∷ []

abbrev pub EndsAlike : Type 0
EndsAlike =
    (setup : Setup) (speeches : List Speech) (l : List Arrival) → Scene setup speeches l → AllCome setup speeches l → Alike setup speeches l
