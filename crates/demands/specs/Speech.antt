-- A segmented message of another node, as MP's sender cuts it (document 01, "Transport"): what the second and the third demand speak of.
--   Words                              an access or a control message
--   Speech                             who says it to whom, over which network key, and its SeqAuth
--   octets_of node s                   the octets that are cut into segments
--   segment_of node s i                the transport PDU of segment i
--   header_of node s i n t             its header, sent with sequence number n and arriving with TTL t
--   Speakable node s                   a speech that this node is to read
--   hand_up node s                     what is handed up of it
--   network_place, application_place   how many keys and pairs are tried for it
-- Keys are named by their places in the receiver's own lists; a label by its octets, and by its place where it is answered.
use Rattle.std.specs.Prelude.{Bool, true, false, List, [], ◌⊎◌, ◌≡◌, ℕ, ◌+◌, ◌%◌, ◌≤◌, ◌<◌, min, length, if◌then◌else◌}
use Rattle.common.specs.Lists.{padded, same}
use Rattle.common.specs.Search.{first}
use Rattle.network.specs.declared.header.Header.{Header}
use Rattle.network.specs.Address.{is_unicast}
use Rattle.network.specs.Candidates.{network_key_places, key_at, candidates}
use Rattle.network.specs.Pdu.{pdu_of}
use Rattle.transport.specs.declared.securing.Envelope.{Envelope}
use Rattle.transport.specs.declared.securing.LabelUuid.{LabelUuid}
use Rattle.transport.specs.declared.securing.MessageKey.{MessageKey}
use Rattle.transport.specs.declared.securing.MessageKey.TheVariants.{Application, Device}
use Rattle.transport.specs.declared.securing.Opener.{Opener}
use Rattle.transport.specs.declared.securing.Opener.TheVariants as opener
use Rattle.transport.specs.Ranges.{OpcodeInRange}
use Rattle.transport.specs.SecureOpen as message
use Rattle.transport.specs.Securing.{label_places, secured, application_key_at, is_virtual}
use Rattle.transport.specs.Segment.{message_octets, access_octet, control_octet, full_octets, last_segment, segment_at}
use Rattle.memory.specs.declared.pair.Pair.{Pair}
use Rattle.node.specs.declared.addresses.Node.{Node}
use Rattle.node.specs.Addresses.{for_node, held_by}
use Rattle.receiver.specs.declared.answer.Answer.{Answer}
use Rattle.receiver.specs.declared.answer.Answer.TheVariants as answer

-- what is said
pub data Words : Type 0 where
  -- by an application key or the device key, with a TransMIC of 8 octets or of 4
  Access : (key : MessageKey) (szmic : Bool) (payload : List ℕ) → Words
  Control : (opcode : ℕ) (parameters : List ℕ) → Words

pub record Speech : Type 0 where
  pub src : ℕ
  pub dst : ℕ
  -- the label that it is said to, sixteen octets; none where DST is not virtual
  pub label : List ℕ
  -- the network key, one for all its segments
  pub network : ℕ
  -- SeqAuth: the IV Index, and the sequence number of segment 0
  pub auth : Pair
  pub words : Words

-- ---- what is cut
abbrev pub is_control : Words → Bool
is_control (Access key szmic payload) = false
is_control (Control opcode parameters) = true

abbrev pub szmic_of : Words → Bool
szmic_of (Access key szmic payload) = szmic
szmic_of (Control opcode parameters) = false

-- the key's octets and AID; the device key has AID 0
abbrev pub key_of : Node → MessageKey → List ℕ
key_of node (Application i) = (application_key_at node.appkeys i).key
key_of node Device = node.device

abbrev pub aid_of : Node → MessageKey → ℕ
aid_of node (Application i) = (application_key_at node.appkeys i).aid
aid_of node Device = 0

abbrev pub akf_of : MessageKey → Bool
akf_of (Application i) = true
akf_of Device = false

-- octet 0 of each segment
abbrev pub first_of : Node → Words → ℕ
first_of node (Access key szmic payload) = access_octet true (akf_of key) (aid_of node key)
first_of node (Control opcode parameters) = control_octet true opcode

-- the second nonce takes its SEQ from SeqAuth
abbrev pub envelope_of : Node → Speech → MessageKey → Bool → Envelope
envelope_of node s key szmic =
    record {
      network = s.network;
      akf = akf_of key;
      aid = aid_of node key;
      szmic = szmic;
      iv = s.auth.iv;
      seq = s.auth.seq;
      src = s.src;
      dst = s.dst;
    }

-- an access message is secured; a control message goes as it is
abbrev pub cut_of : Node → Speech → Words → List ℕ
cut_of node s (Access key szmic payload) = secured (key_of node key) (envelope_of node s key szmic) s.label payload
cut_of node s (Control opcode parameters) = parameters

unfoldable pub octets_of : Node → Speech → List ℕ
octets_of node s = cut_of node s s.words

-- chunks of 12, or of 8 for control
abbrev pub size_of : Speech → ℕ
size_of s = full_octets (is_control s.words)

-- SegN
unfoldable pub last_of : Node → Speech → ℕ
last_of node s = last_segment (size_of s) (length (octets_of node s))

-- ---- a segment
-- SeqZero are the low 13 bits of SeqAuth
unfoldable pub segment_of : Node → Speech → ℕ → List ℕ
segment_of node s i = segment_at (size_of s) (first_of node s.words) (szmic_of s.words) (s.auth.seq % 8192) (last_of node s) (octets_of node s) i

unfoldable pub header_of : Node → Speech → (i seq ttl : ℕ) → Header
header_of node s i seq ttl =
    record {
      key = s.network;
      iv = s.auth.iv;
      ctl = is_control s.words;
      ttl = ttl;
      seq = seq;
      src = s.src;
      dst = s.dst;
      len = length (segment_of node s i);
      transport = padded 16 (segment_of node s i);
    }

-- the PDU, sealed by the network key
abbrev pub segment_pdu : Node → Speech → (i seq ttl : ℕ) → List ℕ
segment_pdu node s i seq ttl = pdu_of (key_at node.materials s.network) (header_of node s i seq ttl)

-- ---- a speech that this node is to read
-- there is a payload, and so many octets are cut at most
pub record Fits (payload cut : List ℕ) (most : ℕ) : Type 0 where
  pub some : 1 ≤ length payload
  pub enough : length cut ≤ most

-- the place of a label among those that a node holds: the first with its octets
unfoldable pub label_place : Node → List ℕ → ℕ
label_place node label = first (λ (l : LabelUuid). same l.octets label) node.labels

-- a label of sixteen octets that a node holds
pub record HoldsLabel (node : Node) (label : List ℕ) : Type 0 where
  pub sixteen : length label ≡ 16
  pub held : label_place node label < min node.labelled label_places

-- what opens a message under a key: for a virtual DST the key with the label, for any other the key alone
abbrev pub opener_of : Node → Speech → MessageKey → Opener
opener_of node s (Application i) = if is_virtual s.dst then opener.Labelled i (label_place node s.label) else opener.Application i
opener_of node s Device = opener.Device

-- a virtual DST has a label that is held, and any other none
pub record LabelRead (node : Node) (s : Speech) : Type 0 where
  pub virtual : is_virtual s.dst ≡ true → HoldsLabel node s.label
  pub other : is_virtual s.dst ≡ false → s.label ≡ []

-- a secured message has 384 octets at most. Its application key is held, of its AID and bound to the network key, and so is the label that it is said to, and no pair tried
-- earlier opens the message; the device key needs a unicast DST. A control message has 256 octets at most, an opcode of 0x01-0x7F, and no virtual DST.
abbrev pub WordsRead : Node → Speech → Words → Type 0
WordsRead node s (Access (Application i) szmic payload) =
    Fits payload (octets_of node s) message_octets
    × ((msg : List ℕ) → message_octets ≤ length msg
    → message.Receives (held_by node) (opener_of node s (Application i)) (envelope_of node s (Application i) szmic) (octets_of node s) msg)
    × LabelRead node s
WordsRead node s (Access Device szmic payload) = Fits payload (octets_of node s) message_octets × (is_unicast s.dst ≡ true) × (s.label ≡ [])
WordsRead node s (Control opcode parameters) = Fits parameters parameters 256 × OpcodeInRange opcode × (is_virtual s.dst ≡ false)

pub record Speakable (node : Node) (s : Speech) : Type 0 where
  pub from_unicast : is_unicast s.src ≡ true
  pub for_here : for_node node s.dst ≡ true
  -- DST has 16 bits
  pub dst_fits : s.dst < 65536
  -- the network key is held, and the IV Index is the current one or the one before
  pub held : s.network < min node.networks network_key_places
  pub near : (s.auth.iv ≡ node.iv) ⊎ (s.auth.iv + 1 ≡ node.iv)
  pub words_read : WordsRead node s s.words

-- ---- what is handed up: the answer, and the octets that it counts in the message buffer
pub record Handed : Type 0 where
  pub answer : Answer
  pub octets : List ℕ

abbrev pub hand_up_as : Node → Speech → Words → Handed
hand_up_as node s (Access key szmic payload) =
    record { answer = answer.Access s.src s.dst s.network (opener_of node s key) s.auth (length payload); octets = payload }
hand_up_as node s (Control opcode parameters) =
    record { answer = answer.Control s.src s.dst s.network opcode s.auth (length parameters); octets = parameters }

abbrev pub hand_up : Node → Speech → Handed
hand_up node s = hand_up_as node s s.words

-- ---- how many keys and pairs are tried
-- the place, from 1, of the message's network key among those with its NID
abbrev pub network_place : Node → Speech → ℕ
network_place node s = length (candidates node.materials s.network (key_at node.materials s.network).nid) + 1

-- that of its application key, with the label or alone, among the pairs; the device key is not counted, and a control message has none
abbrev pub application_place : Node → Speech → Words → ℕ
application_place node s (Access (Application i) szmic payload) = message.place_of (held_by node) (envelope_of node s (Application i) szmic) (opener_of node s (Application i)) + 1
application_place node s (Access Device szmic payload) = 0
application_place node s (Control opcode parameters) = 0
