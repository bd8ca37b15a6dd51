-- Premises are met: a scene of two speakers for demand 3, messages that are sent and read back for demand 2, and a PDU that is forwarded. Keys are those of MP's sample data.
--   shed                the receiver's setup: one network key, one application key, one element
--   boxes, traffic      two boxes' messages, their segments interleaved, with repeats, a PDU that no key opens, a request to acknowledge and a message of the shed's own
--   SceneMet            all premises of demand 3 hold of it
--   AcknowledgementMet  those of `AcknowledgementRead` besides, where the first box hears the acknowledgement
--   SendingsMet         all premises of demand 2 hold of messages to the shed, in segments and whole, access and control, sent in full and heard out of order, with a repeat, a relay's copies and a
--                       PDU that no key opens; from a box set up just now, one with the update flag set, and one that was used before
--   ForwardingMet       all premises of `Forwards` hold of a PDU that one box sends another past the shed, and it is forwarded
--   ReservedMet         so do those of `ForNobody` and `GoesOn` where it sends it to a reserved address, the first or the last
--   IndexMet            so do those of `FreshUnderIndex` of that PDU, where the same SRC and SEQ came under the IV Index before; and those of `CachedExactly` of that one, come again
use Rattle.std.specs.Prelude.{None, Ok, true, false, List, [], ◌∷◌, ◌++◌, map, ◌≡◌, ℕ, ◌≤◌, replicate}
use Rattle.common.specs.Lists.{padded, Octets}
use Rattle.network.specs.declared.header.Header.{Header}
use Rattle.network.specs.Address.{is_reserved}
use Rattle.network.specs.Candidates.{key_at}
use Rattle.network.specs.Pdu.{pdu_octets, pdu_of}
use Rattle.network.specs.Sealing.{forwards}
use Rattle.transport.specs.declared.securing.MessageKey.TheVariants.{Application}
use Rattle.transport.specs.Segment.{message_octets}
use Rattle.memory.specs.Cache.{seen_of}
use Rattle.memory.specs.Remembered.{last_entries, Among}
use Rattle.node.specs.declared.setup.Setup.{Setup}
use Rattle.node.specs.Addresses.{is_local}
use Rattle.node.specs.Setup.{nothing, with_network_key, with_application_key, with_device_key, with_elements, with_index}
use Rattle.receiver.specs.declared.state.Receiver.{Receiver}
use Rattle.receiver.specs.Fresh.{setting_up}
use Rattle.receiver.specs.Good.{Good}
use Rattle.receiver.specs.Passing.{Opens, Ours, Passes}
use Rattle.sending.specs.declared.request.Destination.TheVariants.{Address}
use Rattle.sending.specs.declared.request.Request.{Request}
use Rattle.demands.specs.Acknowledged.{Speaker, OpensTo, Hears}
use Rattle.demands.specs.CacheHolds.{entered}
use Rattle.demands.specs.Call.{Call, Hear, SendAccess, Acknowledge, Outcome, step, after}
use Rattle.demands.specs.GoesOut.{rest_of}
use Rattle.demands.specs.Interleaved.{Event, Segment, Foreign, Ask, Own, Arrival, start, node_of, Each, Scene, AllCome, handed, behind, AskedOf}
use Rattle.demands.specs.ReadBack.{say_call, said_by, pdu_made, made_of, seg_n_as, Incoming, Made, Relayed, Unopened, Hearing, brings, Telling}
use Rattle.demands.specs.Speech.{Words, Access, Control, Speech, hand_up}

abbrev pub network_key : List ℕ
network_key = 0x7d ∷ 0xd7 ∷ 0x36 ∷ 0x4c ∷ 0xd8 ∷ 0x42 ∷ 0xad ∷ 0x18 ∷ 0xc1 ∷ 0x7c ∷ 0x2b ∷ 0x82 ∷ 0x0c ∷ 0x84 ∷ 0xc3 ∷ 0xd6 ∷ []

abbrev pub application_key : List ℕ
application_key = 0x63 ∷ 0x96 ∷ 0x47 ∷ 0x71 ∷ 0x73 ∷ 0x4f ∷ 0xbd ∷ 0x76 ∷ 0xe3 ∷ 0xb4 ∷ 0x05 ∷ 0x19 ∷ 0xd1 ∷ 0xd9 ∷ 0x4a ∷ 0x48 ∷ []

abbrev pub device_key : List ℕ
device_key = 0x9d ∷ 0x6d ∷ 0xd0 ∷ 0xe9 ∷ 0x6e ∷ 0xb2 ∷ 0x5d ∷ 0xc1 ∷ 0x9a ∷ 0x40 ∷ 0xed ∷ 0x99 ∷ 0x14 ∷ 0xf8 ∷ 0xf0 ∷ 0x3f ∷ []

-- the node of one element at an address, with its next SEQ
abbrev pub node_from : (address next : ℕ) → Setup
node_from address next =
    let keyed = with_device_key (with_application_key (with_network_key nothing network_key) 0 application_key) device_key in
    with_index (with_elements keyed address 1 (next ∷ replicate 7 0)) 0x12345678 false true

-- one that has sent nothing yet
abbrev pub node_at : ℕ → Setup
node_at address = node_from address 0

abbrev pub shed : Setup
shed = node_at 0x0001

-- ---- demand 3
-- one box says 20 octets under the application key, the other a control message of 12; each goes in two segments
abbrev pub humidity : Speech
humidity =
    record { src = 0x0002; dst = 0x0001; label = []; network = 0; auth = record { iv = 0x12345678; seq = 0x000100 }; words = Access (Application 0) false (replicate 20 0x5a) }

abbrev pub temperature : Speech
temperature =
    record { src = 0x0003; dst = 0x0001; label = []; network = 0; auth = record { iv = 0x12345677; seq = 0x000200 }; words = Control 0x11 (replicate 12 0x3c) }

abbrev pub boxes : List Speech
boxes = humidity ∷ temperature ∷ []

abbrev pub arrival : Event → Arrival
arrival e = record { event = e; forward = replicate pdu_octets 0; message = replicate message_octets 0 }

-- the shed sends the first box eight octets under the application key, in one PDU
abbrev pub order : Call
order = SendAccess (record { element = 0; dst = Address 0x0002; ttl = None; network = 0 }) (Application 0) false (replicate 8 0x21) (replicate pdu_octets 0)

-- what comes before the request to acknowledge, and behind it
abbrev pub so_far : List Arrival
so_far =
    arrival (Segment 0 1 0x000101 5)
    ∷ arrival (Foreign (0x68 ∷ []))
    ∷ arrival (Segment 1 0 0x000200 7)
    -- the same PDU again, with another TTL
    ∷ arrival (Segment 0 1 0x000101 4)
    ∷ []

abbrev pub behind_it : List Arrival
behind_it =
    arrival (Own order)
    ∷ arrival (Segment 1 1 0x000201 7)
    -- segment 0, lost before; and once more under a new number
    ∷ arrival (Segment 0 0 0x000102 5)
    ∷ arrival (Segment 0 0 0x000103 5)
    ∷ []

abbrev pub traffic : List Arrival
traffic = so_far ++ arrival (Ask 0 0x0002) ∷ behind_it

abbrev pub SceneMet : Type 0
SceneMet = Scene shed boxes traffic × AllCome shed boxes traffic

-- ---- demand 2
-- a box on the bench sends to the shed, no TTL named
abbrev pub bench : Setup
bench = node_at 0x0002

abbrev pub to_shed : Request
to_shed = record { element = 0; dst = Address 0x0001; ttl = None; network = 0 }

-- 20 octets under the application key with a TransMIC of 8: three segments
abbrev pub report : Words
report = Access (Application 0) true (replicate 20 0x5a)

abbrev pub lent_pdu : List ℕ
lent_pdu = replicate pdu_octets 0

-- what the shed hears, with the buffers that it is lent
abbrev pub hearing : Incoming → Hearing
hearing w = record { what = w; forward = lent_pdu; message = replicate message_octets 0 }

-- a sender's message to the shed, sent in full, of which these are heard: the premises hold, and each segment comes
abbrev pub Told : Receiver → Words → List Incoming → Type 0
Told sender words l =
    (let calls = rest_of sender to_shed words lent_pdu in
    Telling sender shed to_shed words lent_pdu calls (map hearing l)
    × ((i : ℕ) → i ≤ seg_n_as (step sender (say_call to_shed words lent_pdu)).answer → brings (made_of sender to_shed words lent_pdu calls) i (map hearing l) ≡ true))

-- the last of three segments first, a PDU that no key opens, segment 0 from a relay, the last once more, and segment 1
abbrev pub overheard : List Incoming
overheard = Made 2 ∷ Unopened (0x68 ∷ []) ∷ Relayed 0 6 ∷ Relayed 2 5 ∷ Made 1 ∷ []

-- eight octets, which go in one PDU; it is heard twice
abbrev pub short : Words
short = Access (Application 0) false (replicate 8 0x21)

abbrev pub heard_twice : List Incoming
heard_twice = Unopened (0x68 ∷ []) ∷ Relayed 0 6 ∷ Made 0 ∷ []

-- a control message of two segments
abbrev pub command : Words
command = Control 0x11 (replicate 12 0x3c)

-- the last segment first, and once more from a relay
abbrev pub heard_backwards : List Incoming
heard_backwards = Made 1 ∷ Relayed 1 6 ∷ Made 0 ∷ []

-- a box with the update flag set
abbrev pub updating : Setup
updating = with_index bench 0x12345678 true true

-- the shed sends the box a message whole
abbrev pub to_box : Request
to_box = record { element = 0; dst = Address 0x0002; ttl = None; network = 0 }

abbrev pub greeting : List ℕ
greeting = pdu_made (step (start shed) (say_call to_box short lent_pdu))

-- the box hears it, and then sends one whole
abbrev pub greeted : Outcome
greeted = step (start bench) (Hear greeting lent_pdu (replicate message_octets 0))

abbrev pub in_use : Receiver
in_use = (step greeted.receiver (say_call to_shed short lent_pdu)).receiver

pub record SendingsMet : Type 0 where
  -- a fresh sender: in segments, whole, and a control message in segments
  pub in_segments : Told (start bench) report overheard
  pub whole : Told (start bench) short heard_twice
  pub control : Told (start bench) command heard_backwards
  -- one with the flag set, which sends under the IV Index before
  pub under_flag : Told (start updating) report overheard
  pub index_before : (said_by (start updating) to_shed report).auth.iv ≡ 0x12345677
  -- one that was used before: a message was handed up, and its next SEQ is 1
  pub told_in_use : Told in_use report overheard
  pub message_heard : handed greeted ≡ hand_up (node_of bench) (said_by (start shed) to_box short) ∷ []
  pub number_used : (said_by in_use to_shed report).auth.seq ≡ 1

-- ---- an acknowledgement that is read
-- the first box has begun its message with SEQ 0x000100, and keeps it
abbrev pub box : Setup
box = node_from 0x0002 0x000100

abbrev pub speaking : Receiver
speaking = (step (start box) (SendAccess to_shed (Application 0) false (replicate 20 0x5a) (replicate pdu_octets 0))).receiver

-- the shed acknowledges the segments come so far, and the box hears it
abbrev pub acknowledgement : Outcome
acknowledgement = step (behind shed boxes so_far) (Acknowledge 0 0x0002 (replicate pdu_octets 0))

abbrev pub AcknowledgementMet : Type 0
AcknowledgementMet =
    AskedOf (node_of shed) boxes so_far 0 0x0002 0
    × (acknowledgement.made ≡ true)
    × Speaker speaking (node_of shed) humidity
    × Hears speaking (node_of shed) 0 (pdu_made acknowledgement) (replicate pdu_octets 0) (replicate message_octets 0)
    -- what the box hears of it is said of the header that it opens to: there is one
    × (h : Header) × OpensTo speaking (pdu_made acknowledgement) h

-- ---- forwarding
-- a node sends a control message of three parameters, TTL 5; the shed, whose relay is on, hears it
abbrev pub passing_from : (src iv dst : ℕ) → Header
passing_from src iv dst =
    record {
      key = 0;
      iv = iv;
      ctl = true;
      ttl = 5;
      seq = 0x000300;
      src = src;
      dst = dst;
      len = 4;
      transport = padded 16 (0x03 ∷ 0x4b ∷ 0x50 ∷ 0x05 ∷ []);
    }

abbrev pub pdu_from : (src iv dst : ℕ) → List ℕ
pdu_from src iv dst = pdu_of (key_at (node_of shed).materials 0) (passing_from src iv dst)

-- of the first box
abbrev pub passing_under : (iv dst : ℕ) → Header
passing_under iv dst = passing_from 0x0002 iv dst

abbrev pub pdu_under : (iv dst : ℕ) → List ℕ
pdu_under iv dst = pdu_from 0x0002 iv dst

-- under the shed's IV Index
abbrev pub passing : ℕ → Header
passing dst = passing_under 0x12345678 dst

abbrev pub passing_pdu : ℕ → List ℕ
passing_pdu dst = pdu_under 0x12345678 dst

abbrev pub MetTo : ℕ → Type 0
MetTo dst =
    Good (start shed)
    × Octets (passing_pdu dst)
    × Passes (start shed) (passing_pdu dst) (replicate pdu_octets 0) (replicate message_octets 0) 1 (passing dst)
    -- and it is one that is forwarded
    × (forwards (node_of shed).relay (is_local (node_of shed) dst) (passing dst) ≡ true)

-- to another box
abbrev pub ForwardingMet : Type 0
ForwardingMet = MetTo 0x0003

-- to the first and the last reserved address
abbrev pub ReservedMet : Type 0
ReservedMet = (MetTo 0xFF00 × (is_reserved 0xFF00 ≡ true)) × (MetTo 0xFFFB × (is_reserved 0xFFFB ≡ true))

-- ---- our own voice
-- the shed's own, to another box, comes back
abbrev pub OwnMet : Type 0
OwnMet =
    Ours (start shed) (pdu_from 0x0001 0x12345678 0x0003) (replicate pdu_octets 0) (replicate message_octets 0) 1 (passing_from 0x0001 0x12345678 0x0003)

-- ---- the cache
-- the shed has heard it under the IV Index before
abbrev pub heard_before : List Call
heard_before = Hear (pdu_under 0x12345677 0x0003) (replicate pdu_octets 0) (replicate message_octets 0) ∷ []

pub record IndexMet : Type 0 where
  pub ready : (setting_up shed).answer ≡ Ok tt
  -- its SRC and SEQ are in the cache, under that one
  pub one_entered : entered shed heard_before ≡ seen_of (passing_under 0x12345677 0x0003) ∷ []
  -- the same SRC and SEQ under the IV Index now
  pub opens_now : Opens (after (start shed) heard_before) (passing_pdu 0x0003) (replicate pdu_octets 0) (replicate message_octets 0) 1 (passing 0x0003)
  pub none_now : Each (λ e. e.src ≡ (passing 0x0003).src → e.iv ≡ (passing 0x0003).iv → ⊥) (entered shed heard_before)
  -- and the first once more
  pub opens_again :
      Opens (after (start shed) heard_before) (pdu_under 0x12345677 0x0003) (replicate pdu_octets 0) (replicate message_octets 0) 1 (passing_under 0x12345677 0x0003)
  pub one_again : Among (seen_of (passing_under 0x12345677 0x0003)) (last_entries (entered shed heard_before))
