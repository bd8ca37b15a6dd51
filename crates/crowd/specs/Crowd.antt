-- Premises are met by a crowd: eight speakers at once, of each kind that demand 3 speaks of, and between their segments all that may come.
--   hall                the receiver's setup: two network keys with one NID, an application key, the device key, one element, one group
--   crowd               the eight speeches
--   rush                what comes: the long message's segments from the last to the first, and after each one of the others
--   CrowdMet            all premises of demand 3 hold of it, each segment comes, and it is such a crowd
use Rattle.std.specs.Prelude.{true, false, List, [], ◌∷◌, ◌≡◌, ℕ, ◌+◌, ◌-◌, ◌<◌, length, get_or, take, replicate}
use Rattle.common.specs.Lists.{tab}
use Rattle.common.specs.Paper.{number_of}
use Rattle.network.specs.Candidates.{key_at}
use Rattle.network.specs.Opening as opened
use Rattle.network.specs.Opening.{opening}
use Rattle.transport.specs.declared.securing.MessageKey.TheVariants.{Application, Device}
use Rattle.node.specs.declared.addresses.Node.{Node}
use Rattle.node.specs.declared.setup.Setup.{Setup}
use Rattle.node.specs.Setup.{nothing, with_network_key, with_application_key, with_device_key, with_elements, with_group, with_index}
use Rattle.demands.specs.Instance.{network_key, application_key, device_key, arrival, order}
use Rattle.demands.specs.Interleaved.{Segment, Foreign, Ask, Own, Arrival, node_of, speech_at, Scene, AllCome}
use Rattle.demands.specs.Speech.{Words, Access, Control, Speech, last_of, segment_pdu, network_place}

-- ---- the receiver
-- a network key that has the NID of `network_key`
abbrev pub second_key : List ℕ
second_key = 0x00 ∷ 0x4b ∷ replicate 14 0

-- two network keys, an application key bound to the first, the device key, one element, one group; relay is on
abbrev pub hall : Setup
hall =
    let keyed = with_application_key (with_network_key (with_network_key nothing network_key) second_key) 0 application_key in
    let addressed = with_group (with_elements (with_device_key keyed device_key) 0x0001 1 (replicate 8 0)) 0xC001 in
    with_index addressed 0x12345678 false true

-- ---- the speakers
-- a message under the current IV Index, and under the one before
abbrev pub said : (src dst network seq : ℕ) → Words → Speech
said src dst network seq words = record { src = src; dst = dst; label = []; network = network; auth = record { iv = 0x12345678; seq = seq }; words = words }

abbrev pub said_before : (src dst network seq : ℕ) → Words → Speech
said_before src dst network seq words = record { src = src; dst = dst; label = []; network = network; auth = record { iv = 0x12345677; seq = seq }; words = words }

-- the TTL that their segments come with
abbrev pub box_ttl : ℕ
box_ttl = 5

-- eight speakers, one message each
abbrev pub crowd : List Speech
crowd =
    -- 380 octets under the application key, with a TransMIC of 4
    said 0x0002 0x0001 0 0x000100 (Access (Application 0) false (replicate 380 0x5a))
    -- 4 octets, with a TransMIC of 8
    ∷ said 0x0003 0x0001 0 0x000200 (Access (Application 0) true (replicate 4 0x11))
    -- to the group, and to every node
    ∷ said 0x0004 0xC001 0 0x000300 (Access (Application 0) false (replicate 20 0x22))
    ∷ said 0x0005 0xFFFF 0 0x000400 (Control 0x11 (replicate 16 0x33))
    -- under the device key
    ∷ said 0x0006 0x0001 0 0x000500 (Access Device false (replicate 20 0x44))
    -- a control message
    ∷ said 0x0007 0x0001 0 0x000600 (Control 0x12 (replicate 12 0x55))
    -- under the second network key
    ∷ said 0x0008 0x0001 1 0x000700 (Control 0x12 (replicate 9 0x3c))
    -- under the IV Index before
    ∷ said_before 0x0009 0x0001 0 0x000800 (Access (Application 0) false (replicate 20 0x66))
    ∷ []

-- SegN of each
abbrev pub lasts : ℕ → ℕ
lasts k = get_or (31 ∷ 0 ∷ 1 ∷ 1 ∷ 1 ∷ 1 ∷ 1 ∷ 1 ∷ []) k 0

-- ---- what comes
-- too short
abbrev pub too_short : List ℕ
too_short = 0x68 ∷ []

-- of a NID that no key has
abbrev pub other_nid : List ℕ
other_nid = 0x69 ∷ replicate 21 0

-- segment 1 of the speech under the second network key, but for the last bit of its NetMIC
abbrev pub forged : List ℕ
forged =
    0x68 ∷ 0x50 ∷ 0x28 ∷ 0xcf ∷ 0x41 ∷ 0x7d ∷ 0xa1 ∷ 0x83 ∷ 0xcc ∷ 0x2c ∷ 0x31 ∷ 0x23 ∷ 0xd0 ∷ 0x2d
    ∷ 0x90 ∷ 0xf6 ∷ 0xad ∷ 0xfd ∷ 0x17 ∷ 0x59 ∷ 0x1e ∷ 0x79 ∷ []

-- segment i of speech k, its SEQ being the i-th from SeqAuth on; and once more, 64 numbers later
abbrev pub sent : (k i : ℕ) → Arrival
sent k i = arrival (Segment k i ((speech_at crowd k).auth.seq + i) box_ttl)

abbrev pub sent_anew : (k i : ℕ) → Arrival
sent_anew k i = arrival (Segment k i ((speech_at crowd k).auth.seq + 64 + i) box_ttl)

-- those of the long message, the last first
abbrev pub descending : List Arrival
descending = tab (λ i. sent 0 (31 - i)) 32

-- those of the others, and what else comes
abbrev pub others : List Arrival
others =
    sent 1 0
    ∷ arrival (Foreign too_short)
    ∷ sent 2 1
    ∷ sent 3 0
    -- the same PDU again
    ∷ sent 2 1
    ∷ sent 4 1
    ∷ arrival (Ask 0 0x0002)
    ∷ sent 5 0
    ∷ arrival (Foreign other_nid)
    ∷ sent 6 1
    ∷ sent 7 1
    -- and one under a new SEQ
    ∷ sent_anew 0 31
    ∷ arrival (Foreign forged)
    ∷ arrival (Own order)
    ∷ sent 7 0
    ∷ sent 6 0
    ∷ sent 5 1
    ∷ sent 4 0
    ∷ sent 3 1
    ∷ sent 2 0
    ∷ sent_anew 7 0
    ∷ []

-- one of each in turn, and then what is left
abbrev pub alternating : List Arrival → List Arrival → List Arrival
alternating [] b = b
alternating (x ∷ a) [] = x ∷ a
alternating (x ∷ a) (y ∷ b) = x ∷ y ∷ alternating a b

-- a request to acknowledge comes before the first segment of its source, and another in between
abbrev pub rush : List Arrival
rush = arrival (Ask 0 0x0002) ∷ alternating descending others

-- the number of the refusal of a PDU
abbrev pub refusal_of : Node → List ℕ → ℕ
refusal_of node pdu = number_of (opened.paper (opening node.materials node.networks node.iv pdu).opened)

-- ---- the premises
pub record CrowdMet : Type 0 where
  pub scene : Scene hall crowd rush
  pub all_come : AllCome hall crowd rush
  pub segn_is : (k : ℕ) → k < length crowd → last_of (node_of hall) (speech_at crowd k) ≡ lasts k
  -- the first network key has the NID of the second, and is tried before it on what the second sealed
  pub one_nid : (key_at (node_of hall).materials 0).nid ≡ (key_at (node_of hall).materials 1).nid
  pub second_trial : network_place (node_of hall) (speech_at crowd 6) ≡ 2
  -- the PDUs that no key opens are refused 1, 2 and 3
  pub short_refused : refusal_of (node_of hall) too_short ≡ 1
  pub nid_refused : refusal_of (node_of hall) other_nid ≡ 2
  pub forged_refused : refusal_of (node_of hall) forged ≡ 3
  -- the third is what its speaker sent, but for the last octet
  pub forged_else : take 21 forged ≡ take 21 (segment_pdu (node_of hall) (speech_at crowd 6) 1 0x000701 box_ttl)
