-- Sessions gather segments (document 01, "Transport"): each is found by its key, a source has at most one, and a freed slot is zeroed.
--   session_key s, segment_key src seg   the key of a session, and of the session that a segment is for
--   session_place l key                  the slot of the session with that key
--   free_place l                         the lowest free slot
--   session_slot l key, free_slot l      the same, where there is one
--   slot_for l key                       the slot that a segment with that key goes to
--   SessionsApart l                      no two sessions have one key
--   same_terms a b                       not 10: equal in CTL, octet 0, SZMIC, SegN, DST and opening key
--   begun src seg                        a session with no segment yet
--   stored s h seg_o                     the session with a segment in its place
--   complete s                           no segment is missing
--   block_ack s                          bits 0 to SegN report places filled
use Rattle.std.specs.Prelude.{Bool, true, false, ◌&&◌, List, [], ◌++◌, ◌≡◌, ℕ, ◌+◌, ◌*◌, ◌%◌, ◌<◌, eqb, ltb, Option, Some, None, length, get_or, take, drop, replicate, if◌then◌else◌}
use Rattle.common.specs.Bits.{with_bit, all_bits}
use Rattle.common.specs.Lists.{onto}
use Rattle.common.specs.Search.{first}
use Rattle.network.specs.declared.header.Header.{Header}
use Rattle.network.specs.Header.{transport_of}
use Rattle.transport.specs.Segment.{message_octets, full_octets}
use Rattle.memory.specs.declared.session.Terms.{Terms}
use Rattle.memory.specs.declared.session.Segment.{Segment}
use Rattle.memory.specs.declared.session.Session.{Session}
use Rattle.memory.specs.declared.session.SessionKey.{SessionKey}
use Rattle.memory.specs.Pair.{no_pair}

-- how many slots there are
abbrev pub session_slots : ℕ
session_slots = 8

abbrev pub no_terms : Terms
no_terms = record { ctl = false; first = 0; szmic = false; segn = 0; dst = 0; key = 0 }

-- a free slot: zeros
abbrev pub no_session : Session
no_session = record { src = 0; auth = no_pair; terms = no_terms; filled = 0; len = 0; bytes = replicate message_octets 0 }

-- all slots free
abbrev pub no_sessions : List Session
no_sessions = replicate session_slots no_session

-- the slot's session; past the last slot nothing is held
abbrev pub session_at : List Session → ℕ → Session
session_at l i = get_or l i (record { src = 0; auth = no_pair; terms = no_terms; filled = 0; len = 0; bytes = [] })

-- ---- what a session is found by: its source
abbrev pub session_key : Session → SessionKey
session_key s = record { src = s.src }

abbrev pub segment_key : ℕ → Segment → SessionKey
segment_key src seg = record { src = src }

abbrev pub same_key : SessionKey → SessionKey → Bool
same_key a b = eqb a.src b.src

-- no session has it
abbrev pub no_key : SessionKey → Bool
no_key k = eqb k.src 0

-- the slot of the session with that key; the number of slots where there is none
unfoldable pub session_place : List Session → SessionKey → ℕ
session_place l k = first (λ s. same_key (session_key s) k) l

-- a slot that holds no session
abbrev pub is_free : Session → Bool
is_free s = no_key (session_key s)

-- the lowest of them; the number of slots where there is none
unfoldable pub free_place : List Session → ℕ
free_place l = first is_free l

-- a slot, where there is one
abbrev pub slot_at : ℕ → Option ℕ
slot_at n = if ltb n session_slots then Some n else None

abbrev pub session_slot : List Session → SessionKey → Option ℕ
session_slot l k = slot_at (session_place l k)

abbrev pub free_slot : List Session → Option ℕ
free_slot l = slot_at (free_place l)

-- a new session takes the lowest free slot, a replacing one its source's slot, where a segment joins too
unfoldable pub slot_for : List Session → SessionKey → ℕ
slot_for l k = if ltb (session_place l k) session_slots then session_place l k else free_place l

-- no two slots hold sessions with one key
abbrev pub SessionsApart : List Session → Type 0
SessionsApart l =
    (i j : ℕ) → i < session_slots → j < session_slots → is_free (session_at l i) ≡ false → session_key (session_at l i) ≡ session_key (session_at l j) → i ≡ j

-- both are set, or neither
abbrev pub same_bit : Bool → Bool → Bool
same_bit true b = b
same_bit false true = false
same_bit false false = true

-- equal in CTL, octet 0, SZMIC, SegN, DST and opening key
unfoldable pub same_terms : Terms → Terms → Bool
same_terms a b =
    same_bit a.ctl b.ctl && (eqb a.first b.first && (same_bit a.szmic b.szmic
    && (eqb a.segn b.segn && (eqb a.dst b.dst && eqb a.key b.key))))

-- a session with no segment yet: every octet is zero
unfoldable pub begun : ℕ → Segment → Session
begun src seg = record { src = src; auth = seg.auth; terms = seg.terms; filled = 0; len = 0; bytes = replicate message_octets 0 }

-- where the octets of segment SegO begin: every segment before it is full. SegO has 5 bits
unfoldable pub octet_place : Bool → ℕ → ℕ
octet_place ctl seg_o = seg_o % 32 * full_octets ctl

-- the octets of a segment: those behind the four in front
unfoldable pub segment_octets : Header → List ℕ
segment_octets h = drop 4 (transport_of h)

-- the message's length, which its last segment tells
unfoldable pub length_with : Session → Header → ℕ → ℕ
length_with s h seg_o =
    if eqb seg_o s.terms.segn then octet_place s.terms.ctl seg_o + length (segment_octets h) else
    s.len

-- the session with a segment in its place
unfoldable pub stored : Session → Header → ℕ → Session
stored s h seg_o =
    let at = octet_place s.terms.ctl seg_o in
    record {
      src = s.src;
      auth = s.auth;
      terms = s.terms;
      filled = with_bit s.filled seg_o;
      len = length_with s h seg_o;
      bytes = take at s.bytes ++ onto (segment_octets h) (drop at s.bytes);
    }

-- no segment is missing
unfoldable pub complete : Session → Bool
complete s = eqb s.filled (all_bits s.terms.segn)

-- bits 0 to SegN report places filled
abbrev pub block_ack : Session → ℕ
block_ack s = s.filled
