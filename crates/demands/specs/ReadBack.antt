-- Demand 2: a message that one node sends in full, to a DST that is for a fresh node with the same keys and IV Index, or to a label that it holds, that fresh node reads back byte for
-- byte, if no network key tried earlier opens a PDU of it, and no pair tried earlier the message.
-- The sender's own operations send it, whole or in segments, with any calls of the sender between; the fresh receiver's `hear` hears what was made of it in any order,
-- repeated, passed on by relays, and mixed with PDUs that no key opens.
--   say_call q words buf           the call that sends a message
--   made_of sender q words buf l   the PDUs made of it, by that call and by the calls l behind it
--   Hearing, hear_call             what the fresh receiver hears
--   Shared, Between, Telling       the premises
--   ReadBack                       the promise: what each hearing hands up, stores and counts, and that the message is handed up once
use Rattle.std.specs.Prelude.{Err, Ok, Bool, true, false, ◌||◌, Option, Some, None, List, [], ◌∷◌, ◌++◌, map, ◌≡◌, ℕ, ◌≤◌, ◌<◌, eqb, leb, length, get_or, take, if◌then◌else◌}
use Rattle.common.specs.Bits.{has_bit, with_bit}
use Rattle.keys.specs.declared.NetworkKeys.{NetworkKeys}
use Rattle.network.specs.declared.header.Header.{Header}
use Rattle.network.specs.Candidates.{key_at, opens}
use Rattle.network.specs.Opening.{opening}
use Rattle.network.specs.Pdu.{pdu_octets, pdu_of}
use Rattle.network.specs.Trial.{tried}
use Rattle.transport.specs.declared.securing.MessageKey.TheVariants.{Application, Device}
use Rattle.transport.specs.SecureOpen.{place_of, pair_at}
use Rattle.transport.specs.Securing.{is_virtual, opens_message}
use Rattle.transport.specs.Segment.{message_octets}
use Rattle.node.specs.declared.addresses.Node.{Node}
use Rattle.node.specs.declared.setup.Setup.{Setup}
use Rattle.node.specs.Addresses.{is_local, for_node, held_by}
use Rattle.receiver.specs.declared.answer.Refusal.TheVariants.{Cached}
use Rattle.receiver.specs.declared.state.Receiver.{Receiver}
use Rattle.receiver.specs.Fresh.{setting_up}
use Rattle.receiver.specs.Good.{Good}
use Rattle.sending.specs.declared.answer.Answer.TheVariants.{Sent, Started}
use Rattle.sending.specs.declared.request.Request.{Request}
use Rattle.sending.specs.Access.{is_whole}
use Rattle.sending.specs.Request.{dst_of, additional_for}
use Rattle.sending.specs.Transmission.{sending_iv, address_of, next_seq}
use Rattle.demands.specs.Call.{Call, Hear, GiveUp, SendAccess, SendControl, SendSegment, Acknowledge, Stop, Answer, Heard, Said, Ended, Outcome, step, run}
use Rattle.demands.specs.Interleaved.{start, node_of, is_last_missing, Each, handed, is_stored}
use Rattle.demands.specs.Refusal.{no_key_opens}
use Rattle.demands.specs.Speech.{Words, Access, Control, Speech, envelope_of, octets_of, HoldsLabel, opener_of, Handed, hand_up, network_place, application_place}

-- ---- the sender
-- the call that sends a message
abbrev pub say_call : Request → Words → List ℕ → Call
say_call q (Access key szmic payload) buf = SendAccess q key szmic payload buf
say_call q (Control opcode parameters) buf = SendControl q opcode parameters buf

-- an access payload of 1 to 11 octets with the 4-octet TransMIC goes unsegmented, and so do at most 11 control parameters
abbrev pub goes_whole : Words → Bool
goes_whole (Access key szmic payload) = is_whole szmic (length payload)
goes_whole (Control opcode parameters) = leb (length parameters) 11

-- what is said, to the address or the label that the request names: the element speaks, with its next SEQ
abbrev pub said_by : Receiver → Request → Words → Speech
said_by sender q words =
    record {
      src = address_of sender.node q.element;
      dst = dst_of sender.node q.dst;
      label = additional_for sender.node q.dst;
      network = q.network;
      auth = record { iv = sending_iv sender.node; seq = next_seq sender q.element };
      words = words;
    }

-- the PDU that a call made
abbrev pub pdu_made : Outcome → List ℕ
pdu_made o = take o.octets o.pdu

-- a PDU made of a message, and which segment it is; a message that goes whole is one, segment 0
pub record Piece : Type 0 where
  pub segment : ℕ
  pub pdu : List ℕ

-- a call that sends a segment of the message kept makes one, unless it is refused; no other call does
abbrev pub piece : Receiver → Call → List Piece
piece r (Hear pdu fwd msg) = []
piece r (GiveUp src) = []
piece r (SendAccess q key szmic payload buf) = []
piece r (SendControl q opcode parameters buf) = []
piece r (SendSegment n buf) =
    let o = step r (SendSegment n buf) in
    if o.made then record { segment = n; pdu = pdu_made o } ∷ [] else
    []
piece r (Acknowledge net src buf) = []
piece r Stop = []

-- those that a list of calls makes, until the message is given up, cancelled or all heard: SRC 0 marks that none is kept
abbrev pub pieces : Receiver → List Call → List Piece
pieces r [] = []
pieces r (c ∷ l) = if eqb r.out.src 0 then [] else piece r c ++ pieces (step r c).receiver l

-- a message that was begun with segment 0 goes on behind it
abbrev pub pieces_as : Answer → Receiver → List Call → List Piece
pieces_as (Said (Ok (Sent len))) r l = []
pieces_as (Said (Ok (Started len seg_n))) r l = pieces r l
pieces_as (Said (Err n)) r l = []
pieces_as (Heard a) r l = []
pieces_as (Ended a) r l = []

-- the PDUs made of a message
abbrev pub made_of : Receiver → Request → Words → List ℕ → List Call → List Piece
made_of sender q words buf l =
    let o = step sender (say_call q words buf) in
    record { segment = 0; pdu = pdu_made o } ∷ pieces_as o.answer o.receiver l

-- SegN, as the call that began the message answers it
abbrev pub seg_n_as : Answer → ℕ
seg_n_as (Said (Ok (Sent len))) = 0
seg_n_as (Said (Ok (Started len seg_n))) = seg_n
seg_n_as (Said (Err n)) = 0
seg_n_as (Heard a) = 0
seg_n_as (Ended a) = 0

-- ---- the fresh receiver
-- what it hears
pub data Incoming : Type 0 where
  -- the PDU at a place, from 0, of those made
  Made : (place : ℕ) → Incoming
  -- that PDU as relays passed it on, arriving with another TTL
  Relayed : (place ttl : ℕ) → Incoming
  -- a PDU that no key opens
  Unopened : (pdu : List ℕ) → Incoming

-- with the buffers that the call is lent: the first for a PDU, the second for a message
pub record Hearing : Type 0 where
  pub what : Incoming
  pub forward : List ℕ
  pub message : List ℕ

-- the PDU at a place of those made
abbrev pub piece_at : List Piece → ℕ → Piece
piece_at ps i = get_or ps i (record { segment = 0; pdu = [] })

-- TTL is another; key, IV Index and all else stay
abbrev pub with_ttl : Header → ℕ → Header
with_ttl h ttl =
    record { key = h.key; iv = h.iv; ctl = h.ctl; ttl = ttl; seq = h.seq; src = h.src; dst = h.dst; len = h.len; transport = h.transport }

-- relays open a PDU by the message's network key, and seal it again by the same, under the same IV Index; nothing comes of one that it does not open
abbrev pub resealed_with : NetworkKeys → ℕ → Option Header → List ℕ
resealed_with key ttl (Some h) = pdu_of key (with_ttl h ttl)
resealed_with key ttl None = []

abbrev pub relayed_with : Node → Speech → List ℕ → ℕ → List ℕ
relayed_with node s pdu ttl = let key = key_at node.materials s.network in resealed_with key ttl (tried key s.network s.auth.iv pdu)

-- the PDU that is heard, and the call that hears it
abbrev pub pdu_heard : Node → Speech → List Piece → Incoming → List ℕ
pdu_heard node s ps (Made i) = (piece_at ps i).pdu
pdu_heard node s ps (Relayed i ttl) = relayed_with node s (piece_at ps i).pdu ttl
pdu_heard node s ps (Unopened pdu) = pdu

abbrev pub hear_call : Node → Speech → List Piece → Hearing → Call
hear_call node s ps h = Hear (pdu_heard node s ps h.what) h.forward h.message

-- ---- which segments have come
-- a bit each, with these before
abbrev pub came_with : List Piece → ℕ → Incoming → ℕ
came_with ps bits (Made i) = with_bit bits (piece_at ps i).segment
came_with ps bits (Relayed i ttl) = with_bit bits (piece_at ps i).segment
came_with ps bits (Unopened pdu) = bits

-- whether this is segment i, and whether segment i is among them
abbrev pub is_piece : List Piece → ℕ → Incoming → Bool
is_piece ps i (Made j) = eqb (piece_at ps j).segment i
is_piece ps i (Relayed j ttl) = eqb (piece_at ps j).segment i
is_piece ps i (Unopened pdu) = false

abbrev pub brings : List Piece → ℕ → List Hearing → Bool
brings ps i [] = false
brings ps i (h ∷ l) = is_piece ps i h.what || brings ps i l

-- ---- the premises
-- the same keys and IV Index; flag, relay, elements and groups may differ
pub record Shared (a b : Node) : Type 0 where
  pub networks_same : a.networks ≡ b.networks
  pub materials_same : a.materials ≡ b.materials
  pub applications_same : a.applications ≡ b.applications
  pub appkeys_same : a.appkeys ≡ b.appkeys
  pub device_same : a.device ≡ b.device
  pub iv_same : a.iv ≡ b.iv

-- no network key before the message's own opens this PDU
abbrev pub OwnKeyFirst : Node → Speech → List ℕ → Type 0
OwnKeyFirst node s pdu =
    (j : ℕ) → j < s.network → (key_at node.materials j).nid ≡ (key_at node.materials s.network).nid → opens node.materials s.auth.iv pdu j ≡ false

-- nor a pair before its own the message
abbrev pub OwnMessageFirst : Node → Speech → Words → Type 0
OwnMessageFirst node s (Access (Application i) szmic payload) =
    (msg : List ℕ) (j : ℕ) → (let e = envelope_of node s (Application i) szmic in
    j < place_of (held_by node) e (opener_of node s (Application i)) → opens_message (held_by node) e (octets_of node s) msg (pair_at (held_by node) e j) ≡ false)
OwnMessageFirst node s (Access Device szmic payload) = Unit {0}
OwnMessageFirst node s (Control opcode parameters) = Unit {0}

-- a sender that was set up, and used since; a fresh receiver that a message of its is for
pub record Between (sender : Receiver) (setup : Setup) (q : Request) (words : Words) : Type 0 where
  pub good : Good sender
  pub ready : (setting_up setup).answer ≡ Ok tt
  pub shared : Shared sender.node (node_of setup)
  -- the element that speaks is another node's
  pub other_node : is_local (node_of setup) (address_of sender.node q.element) ≡ false
  -- DST, of 16 bits, is for the receiver
  pub for_here : for_node (node_of setup) (dst_of sender.node q.dst) ≡ true
  pub dst_fits : dst_of sender.node q.dst < 65536
  -- and where it is virtual, the receiver holds the label
  pub holds_label_law : is_virtual (dst_of sender.node q.dst) ≡ true → HoldsLabel (node_of setup) (additional_for sender.node q.dst)
  pub own_message_first : OwnMessageFirst (node_of setup) (said_by sender q words) words

-- this PDU, as it was made or passed on, is the one at place i; no network key tried earlier opens it
pub record OneOf (node : Node) (s : Speech) (ps : List Piece) (i : ℕ) (pdu : List ℕ) : Type 0 where
  pub place_there : i < length ps
  pub own_key_first : OwnKeyFirst node s pdu

-- it is one of those made, its TTL of 7 bits where relays passed it on, or no key opens it
abbrev pub ComesAs : Node → Speech → List Piece → Incoming → Type 0
ComesAs node s ps (Made i) = OneOf node s ps i (piece_at ps i).pdu
ComesAs node s ps (Relayed i ttl) = OneOf node s ps i (relayed_with node s (piece_at ps i).pdu ttl) × (ttl ≤ 127)
ComesAs node s ps (Unopened pdu) = no_key_opens (opening node.materials node.networks node.iv pdu).opened ≡ true

-- and is heard with buffers that are not refused 16
pub record Hears (node : Node) (s : Speech) (ps : List Piece) (h : Hearing) : Type 0 where
  pub comes : ComesAs node s ps h.what
  pub room_forward : pdu_octets ≤ length h.forward
  pub room_message : message_octets ≤ length h.message

-- a call made a PDU of a message, any calls l follow, and of what was made these are heard
pub record Telling (sender : Receiver) (setup : Setup) (q : Request) (words : Words) (buf : List ℕ) (l : List Call) (heard : List Hearing) : Type 0 where
  pub between : Between sender setup q words
  pub sent : (step sender (say_call q words buf)).made ≡ true
  pub hears : Each (Hears (node_of setup) (said_by sender q words) (made_of sender q words buf l)) heard

-- ---- the promise
-- segment i of a message is heard, where these have come
pub record Reads (node : Node) (s : Speech) (seg_n bits i : ℕ) (o : Outcome) : Type 0 where
  -- the message is handed up where this was the last segment that was missing, and nothing elsewhere
  pub hands : handed o ≡ (if is_last_missing bits i seg_n then hand_up node s ∷ [] else [])
  -- one that is new is stored where another is missing
  pub stores : has_bit bits i ≡ false → is_last_missing bits i seg_n ≡ false → is_stored o.answer ≡ true
  -- a message that went whole is refused 5 when it comes again
  pub again : goes_whole s.words ≡ true → has_bit bits i ≡ true → o.answer ≡ Heard (Err Cached)
  -- network keys are tried up to the message's own, and pairs likewise where it is handed up
  pub counts :
      o.tried ≡ record { network = network_place node s; application = if is_last_missing bits i seg_n then application_place node s s.words else 0 }

-- what is heard, where these have come; a PDU that no key opens hands up nothing
abbrev pub ReadsAs : Node → Speech → List Piece → ℕ → ℕ → Incoming → Outcome → Type 0
ReadsAs node s ps seg_n bits (Made i) o = Reads node s seg_n bits (piece_at ps i).segment o
ReadsAs node s ps seg_n bits (Relayed i ttl) o = Reads node s seg_n bits (piece_at ps i).segment o
ReadsAs node s ps seg_n bits (Unopened pdu) o = handed o ≡ []

-- and so on, each hearing finding what the one before it left
abbrev pub ReadsEach : Node → Speech → List Piece → ℕ → Receiver → ℕ → List Hearing → Type 0
ReadsEach node s ps seg_n r bits [] = Unit {0}
ReadsEach node s ps seg_n r bits (h ∷ l) =
    let o = step r (hear_call node s ps h) in
    ReadsAs node s ps seg_n bits h.what o × ReadsEach node s ps seg_n o.receiver (came_with ps bits h.what) l

-- all that a run hands up
abbrev pub all_handed : List Outcome → List Handed
all_handed [] = []
all_handed (o ∷ l) = handed o ++ all_handed l

-- the message is read from these PDUs, heard by a fresh receiver
pub record ReadInFull (setup : Setup) (s : Speech) (ps : List Piece) (seg_n : ℕ) (heard : List Hearing) : Type 0 where
  pub each : ReadsEach (node_of setup) s ps seg_n (start setup) 0 heard
  -- once each segment has come the message was handed up, once, and nothing else was
  pub once :
      ((i : ℕ) → i ≤ seg_n → brings ps i heard ≡ true)
      → all_handed (run (start setup) (map (hear_call (node_of setup) s ps) heard)) ≡ hand_up (node_of setup) s ∷ []

abbrev pub ReadBack : Type 0
ReadBack =
    (sender : Receiver) (setup : Setup) (q : Request) (words : Words) (buf : List ℕ) (l : List Call) (heard : List Hearing)
    → Telling sender setup q words buf l heard
    → ReadInFull setup (said_by sender q words) (made_of sender q words buf l) (seg_n_as (step sender (say_call q words buf)).answer) heard
