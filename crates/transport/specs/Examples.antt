-- Examples E4 to E12 of document 01 say what SeqAuth, segments and acknowledgements are: one list under one claim.
use Rattle.std.specs.Prelude.{Bool, true, false, List, [], ◌∷◌, map, ◌≡◌, ℕ, length}
use Rattle.common.specs.Bits.{with_bit, all_bits}
use Rattle.common.specs.Chunks.{chunks}
use Rattle.common.specs.Paper.{Paper, Refusal, Given}
use Rattle.transport.specs.SeqAuth.{seq_auth, Word, begun, paper}
use Rattle.transport.specs.Segment.{access_octet, segment_front, acknowledgement_octets, full_octets}

-- BlockAck of the segments that came: bit i is that of segment i
abbrev pub came_of : List ℕ → ℕ
came_of [] = 0
came_of (i ∷ l) = with_bit (came_of l) i

-- an example of each kind
pub data Example : Type 0 where
  -- SEQ, SeqZero, and the SeqAuth
  Begun : ℕ → ℕ → Paper Word → Example
  -- AKF, AID, SZMIC, SeqZero, SegO, SegN, and the four octets
  Front : Bool → ℕ → Bool → ℕ → ℕ → ℕ → List ℕ → Example
  -- OBO, SeqZero, the segments that came, and the seven octets
  Acknowledged : Bool → ℕ → List ℕ → List ℕ → Example
  -- CTL, how many octets there are, and the lengths of their segments
  Cut : Bool → ℕ → List ℕ → Example
  -- SegN, and the BlockAck of all
  Complete : ℕ → ℕ → Example

-- what the definitions make of it is what it says
abbrev pub Holds : Example → Type 0
Holds (Begun seq seq_zero answer) = paper (seq_auth seq seq_zero) ≡ answer
Holds (Front akf aid szmic seq_zero seg_o seg_n answer) = segment_front (access_octet true akf aid) szmic seq_zero seg_o seg_n ≡ answer
Holds (Acknowledged obo seq_zero came answer) = acknowledgement_octets obo seq_zero (came_of came) ≡ answer
Holds (Cut ctl n answer) = (l : List ℕ) → length l ≡ n → map length (chunks (full_octets ctl) l) ≡ answer
Holds (Complete seg_n answer) = all_bits seg_n ≡ answer

-- E4 to E12
abbrev pub examples : List Example
examples =
    Begun 0x647262 0x1849 (Given begun (0x645849 ∷ []))
    ∷ Begun 0x647262 0x1263 (Given begun (0x645263 ∷ []))
    ∷ Begun 5 6 (Refusal 8 [])
    ∷ Begun 5 5 (Given begun (5 ∷ []))
    ∷ Front true 0x26 false 0x1849 1 3 (0xE6 ∷ 0x61 ∷ 0x24 ∷ 0x23 ∷ [])
    ∷ Acknowledged false 0x1849 (0 ∷ 3 ∷ []) (0x00 ∷ 0x61 ∷ 0x24 ∷ 0x00 ∷ 0x00 ∷ 0x00 ∷ 0x09 ∷ [])
    ∷ Cut false 42 (12 ∷ 12 ∷ 12 ∷ 6 ∷ [])
    ∷ Cut true 42 (8 ∷ 8 ∷ 8 ∷ 8 ∷ 8 ∷ 2 ∷ [])
    ∷ Complete 31 0xFFFFFFFF
    ∷ []

-- each example of a list holds
abbrev pub Hold : List Example → Type 0
Hold [] = Unit {0}
Hold (e ∷ l) = Holds e × Hold l

-- each of E4 to E12 holds
abbrev pub Examples : Type 0
Examples = Hold examples
