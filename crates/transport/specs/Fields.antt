-- The fields of a transport PDU, read off its octets by quotients and remainders (document 01, "Transport").
--   seg a, akf a, aid a, opcode a           of octet 0
--   fields_number t, acknowledged t         octets 1-3 of a segment, octets 1-2 of an acknowledgement, each as one number, high first
--   szmic n, seq_zero n, seg_o n, seg_n n   of a segment's number
--   obo n, seq_zero_heard n                 of an acknowledgement's number
--   block_ack t                             octets 3-6 of an acknowledgement
use Rattle.std.specs.Prelude.{Bool, List, ℕ, ◌+◌, ◌*◌, ◌/◌, ◌%◌, leb, get_or}

-- SEG, the highest bit
abbrev pub seg : ℕ → Bool
seg first = leb 128 first

-- AKF, the bit below SEG
abbrev pub akf : ℕ → Bool
akf first = leb 64 (first % 128)

-- AID, the low 6 bits
abbrev pub aid : ℕ → ℕ
aid first = first % 64

-- the opcode, the low 7 bits
abbrev pub opcode : ℕ → ℕ
opcode first = first % 128

-- four octets as a number, high first
abbrev pub four : ℕ → ℕ → ℕ → ℕ → ℕ
four a b c d = ((a * 256 + b) * 256 + c) * 256 + d

-- octets 1-3 of a segment: SZMIC or RFU bit, SeqZero (13 bits), SegO (5), SegN (5)
abbrev pub fields_number : List ℕ → ℕ
fields_number t = four 0 (get_or t 1 0) (get_or t 2 0) (get_or t 3 0)

-- SZMIC, bit 23
abbrev pub szmic : ℕ → Bool
szmic n = leb 8388608 n

-- SeqZero, 13 bits from bit 10 on
abbrev pub seq_zero : ℕ → ℕ
seq_zero n = n / 1024 % 8192

-- SegO, 5 bits from bit 5 on
abbrev pub seg_o : ℕ → ℕ
seg_o n = n / 32 % 32

-- SegN, the low 5 bits
abbrev pub seg_n : ℕ → ℕ
seg_n n = n % 32

-- octets 1-2 of an acknowledgement: OBO, SeqZero (13 bits), 2 RFU bits
abbrev pub acknowledged : List ℕ → ℕ
acknowledged t = four 0 0 (get_or t 1 0) (get_or t 2 0)

-- OBO, bit 15
abbrev pub obo : ℕ → Bool
obo n = leb 32768 n

-- SeqZero, 13 bits from bit 2 on
abbrev pub seq_zero_heard : ℕ → ℕ
seq_zero_heard n = n / 4 % 8192

-- BlockAck, octets 3-6
abbrev pub block_ack : List ℕ → ℕ
block_ack t = four (get_or t 3 0) (get_or t 4 0) (get_or t 5 0) (get_or t 6 0)
