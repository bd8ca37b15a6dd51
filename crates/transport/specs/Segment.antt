-- Segments of an upper transport PDU, with the octets in front of their bodies, and an acknowledgement, as they are sent (document 01, "Transport").
--   access_octet seg akf aid, control_octet seg opcode   octet 0
--   segment_front first szmic seq_zero seg_o seg_n       the four octets in front of a segment
--   acknowledgement_octets obo seq_zero bits             the seven octets of an acknowledgement
--   full_octets ctl                                      how many octets a full segment has behind the four
--   last_segment size len                                SegN of a message of so many octets
--   segment_at size first szmic seq_zero seg_n u seg_o   a segment of the upper transport PDU u
-- A number wider than its field counts by its low bits; RFU bits are written 0.
use Rattle.std.specs.Prelude.{Bool, List, ◌∷◌, ◌++◌, ℕ, ◌+◌, ◌-◌, ◌*◌, ◌%◌, if◌then◌else◌}
use Rattle.common.specs.Chunks.{chunk, chunk_count}
use Rattle.modes.specs.Ccm.{longest}
use Rattle.network.specs.Octets.{octets}

-- the most octets that a message has
abbrev pub message_octets : ℕ
message_octets = longest

-- SEG, AKF, AID
unfoldable pub access_octet : Bool → Bool → ℕ → ℕ
access_octet seg akf aid = (if seg then 128 else 0) + (if akf then 64 else 0) + aid % 64

-- SEG, opcode
unfoldable pub control_octet : Bool → ℕ → ℕ
control_octet seg opcode = (if seg then 128 else 0) + opcode % 128

-- SZMIC, SeqZero (13 bits), SegO (5), SegN (5) as one number; of a control segment SZMIC is the RFU bit, 0
unfoldable pub segment_number : Bool → ℕ → ℕ → ℕ → ℕ
segment_number szmic seq_zero seg_o seg_n = (if szmic then 8388608 else 0) + (seq_zero % 8192 * 1024 + seg_o % 32 * 32 + seg_n % 32)

-- octet 0, then these, high first
unfoldable pub segment_front : ℕ → Bool → ℕ → ℕ → ℕ → List ℕ
segment_front first szmic seq_zero seg_o seg_n = first ∷ octets 3 (segment_number szmic seq_zero seg_o seg_n)

-- OBO, SeqZero (13 bits), 2 RFU bits as one number
unfoldable pub acknowledgement_number : Bool → ℕ → ℕ
acknowledgement_number obo seq_zero = (if obo then 32768 else 0) + seq_zero % 8192 * 4

-- SEG 0, opcode 0; OBO, SeqZero, 2 RFU bits; BlockAck (32)
unfoldable pub acknowledgement_octets : Bool → ℕ → ℕ → List ℕ
acknowledgement_octets obo seq_zero bits = 0x00 ∷ octets 2 (acknowledgement_number obo seq_zero) ++ octets 4 bits

-- a full segment has 12 octets of access behind the four in front, or 8 of control
abbrev pub full_octets : Bool → ℕ
full_octets ctl = if ctl then 8 else 12

-- SegN of a message of so many octets
unfoldable pub last_segment : ℕ → ℕ → ℕ
last_segment size len = chunk_count size len - 1

-- octet 0, SZMIC, SeqZero, SegO, SegN; then the chunk
abbrev pub segment_at : ℕ → ℕ → Bool → ℕ → ℕ → List ℕ → ℕ → List ℕ
segment_at size first szmic seq_zero seg_n u seg_o = segment_front first szmic seq_zero seg_o seg_n ++ chunk size u seg_o
