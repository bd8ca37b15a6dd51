-- A vendor's segments are vetted (document 02, W12): whether some upper transport PDU has exactly these transport PDUs as its segments, and which.
--   segments_of ctl c z q u   the segments of the upper transport PDU u, for octet 0 c, SZMIC z and SeqZero q
--   Allowed ctl c z q u       what such a message may be
--   stated_by p               what PDU 0 states of its message
--   fits ctl s k p            whether p may be PDU k of a message of which PDU 0 states s
--   judged ctl l              PDUs: all of a message, a fault at the first that does not fit, or too few
--   joined l                  what stands behind their fronts
--   vetting ctl list out      what a call leaves
--   paper v                   how an answer is given; PaperApart: no two alike
use Rattle.std.specs.Prelude.{Bool, true, not, ◌&&◌, ◌||◌, List, [], ◌∷◌, ◌++◌, Result, Ok, Err, ⊤, ◌≡◌, ℕ, suc, ◌+◌, ◌*◌, ◌≤◌, ◌<◌, eqb, leb, ltb, length, get_or, take, drop, if◌then◌else◌}
use Rattle.common.specs.Lent.{Lent, lent}
use Rattle.common.specs.Lists.{tab, onto, same}
use Rattle.common.specs.Paper as given
use Rattle.transport.specs.declared.vetting.Refusal.{Refusal}
use Rattle.transport.specs.declared.vetting.Refusal.TheVariants.{ShortBuffer, Fault, Unfinished}
use Rattle.transport.specs.declared.vetting.Stated.{Stated}
use Rattle.transport.specs.Fields.{seg, akf, aid, opcode, fields_number, szmic, seq_zero, seg_n}
use Rattle.transport.specs.Listed.{pdus}
use Rattle.transport.specs.Segment.{message_octets, full_octets, last_segment, segment_front, segment_at}

-- ---- the segments of an upper transport PDU
-- segments 0 to SegN
abbrev pub segments_of : Bool → ℕ → Bool → ℕ → List ℕ → List (List ℕ)
segments_of ctl c z q u =
    let n = last_segment (full_octets ctl) (length u) in
    tab (segment_at (full_octets ctl) c z q n u) (suc n)

-- octet 0: SEG 1; access: AKF 1 and any AID, or AKF 0 and AID 0; control: opcode 0x01-0x7F
unfoldable pub octet_allowed : Bool → ℕ → Bool
octet_allowed ctl c = seg c && (if ctl then ltb 0 (opcode c) else akf c || eqb (aid c) 0)

-- the bit before SeqZero: SZMIC; of control it is RFU, and 0
unfoldable pub bit_allowed : Bool → Bool → Bool
bit_allowed ctl z = if ctl then not z else true

-- how many octets there are at least: access 5, or 9 with SZMIC 1; control 1
unfoldable pub least : Bool → Bool → ℕ
least ctl z = if ctl then 1 else if z then 9 else 5

-- and at most: access 384; control 256
unfoldable pub most : Bool → ℕ
most ctl = if ctl then 256 else 384

pub record Allowed (ctl : Bool) (c : ℕ) (z : Bool) (q : ℕ) (u : List ℕ) : Type 0 where
  pub octet_fits : octet_allowed ctl c ≡ true
  pub bit_fits : bit_allowed ctl z ≡ true
  pub seq_zero_fits : q < 8192
  pub not_shorter : least ctl z ≤ length u
  pub not_longer : length u ≤ most ctl

-- ---- the judgement
-- octet 0, SZMIC, SeqZero and SegN of PDU 0
abbrev pub stated_by : List ℕ → Stated
stated_by p =
    let n = fields_number p in
    record { first = get_or p 0 0; szmic = szmic n; seqzero = seq_zero n; segn = seg_n n }

-- whether segment k of a message with SegN n may have so many octets behind its front: each before the last is full, and the last has one at least and
-- brings the message to its least length
unfoldable pub fills : ℕ → ℕ → ℕ → ℕ → ℕ → Bool
fills size few k n octets =
    if ltb k n then eqb octets size else
    leb 1 octets && (leb octets size && leb few (size * n + octets))

-- octet 0 and the bit are allowed, k is at most SegN, and p has the front of segment k and so many octets behind it
unfoldable pub fits : Bool → Stated → ℕ → List ℕ → Bool
fits ctl s k p =
    octet_allowed ctl s.first && (bit_allowed ctl s.szmic && (leb k s.segn
    && (same (take 4 p) (segment_front s.first s.szmic s.seqzero k s.segn)
    && fills (full_octets ctl) (least ctl s.szmic) k s.segn (length (drop 4 p)))))

-- the PDUs from k on, where those before fit
unfoldable pub judged_from : Bool → Stated → ℕ → List (List ℕ) → Result ⊤ Refusal
judged_from ctl s k [] = if ltb s.segn k then Ok tt else Err Unfinished
judged_from ctl s k (p ∷ l) = if fits ctl s k p then judged_from ctl s (k + 1) l else Err (Fault k)

-- all PDUs, by what PDU 0 states
unfoldable pub judged : Bool → List (List ℕ) → Result ⊤ Refusal
judged ctl l = judged_from ctl (stated_by (get_or l 0 [])) 0 l

-- what stands behind the fronts, one behind the other
unfoldable pub joined : List (List ℕ) → List ℕ
joined [] = []
joined (p ∷ l) = drop 4 p ++ joined l

-- ---- the call
-- what is approved stands in the first octets of the buffer; nothing else is written
abbrev pub shown : Result ⊤ Refusal → List ℕ → List ℕ → Lent (Result ℕ Refusal)
shown (Ok whole) u out = lent (Ok (length u)) (onto u out)
shown (Err r) u out = lent (Err r) out

-- 16: the buffer is shorter than 384, whatever the PDUs
unfoldable pub vetting : Bool → List ℕ → List ℕ → Lent (Result ℕ Refusal)
vetting ctl list out =
    if ltb (length out) message_octets then lent (Err ShortBuffer) out else
    shown (judged ctl (pdus list)) (joined (pdus list)) out

-- this paper's number and values of each answer: the octets approved, the position of the fault
pub data Word : Type 0 where
  approved : Word

abbrev pub paper : Result ℕ Refusal → given.Paper Word
paper (Ok len) = given.Given approved (len ∷ [])
paper (Err ShortBuffer) = given.Refusal 16 []
paper (Err (Fault k)) = given.Refusal 26 (k ∷ [])
paper (Err Unfinished) = given.Refusal 27 []

abbrev pub PaperApart : Type 0
PaperApart = given.ToldApart paper
