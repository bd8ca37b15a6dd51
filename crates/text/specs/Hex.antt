-- Octets as hex pairs, read in either case and written in lower case; - stands for no octets.
--   hex_value d        the value of a digit
--   leading text       the octets of the pairs in front
--   reading text out   what a text reads as, and the buffer with its octets
--   filling text out   whether it fills the buffer, and the buffer
--   hex_text octets    octets, written
use Rattle.std.specs.Prelude.{Option, Some, None, Bool, false, List, [], ◌∷◌, ◌++◌, ℕ, ◌+◌, ◌-◌, ◌*◌, ◌/◌, ◌%◌, eqb, leb, ltb, length, if◌then◌else◌}
use Rattle.io.specs.Digits.{last_digits}
use Rattle.common.specs.Lent.{Lent, lent}
use Rattle.common.specs.Lists.{onto, same}

-- the value of a digit, 0 to 9, A to F or a to f
unfoldable pub hex_value : ℕ → Option ℕ
hex_value d =
    if ltb d 48 then None else
    if leb d 57 then Some (d - 48) else
    if ltb d 65 then None else
    if leb d 70 then Some (d - 65 + 10) else
    if ltb d 97 then None else
    if leb d 102 then Some (d - 97 + 10) else
    None

-- the octet of a pair in front of others; none of them where one of the two is no digit
abbrev pub with_pair : Option ℕ → Option ℕ → List ℕ → List ℕ
with_pair (Some high) (Some low) octets = (high * 16 + low) ∷ octets
with_pair (Some high) None octets = []
with_pair None low octets = []

-- the octets of the pairs of digits in front, as far as there are such
unfoldable pub leading : List ℕ → List ℕ
leading [] = []
leading (h ∷ []) = []
leading (h ∷ l ∷ text) = with_pair (hex_value h) (hex_value l) (leading text)

-- whether n pairs are in front, and the buffer with the octets of those that are
unfoldable pub reading_pairs : List ℕ → ℕ → List ℕ → Lent Bool
reading_pairs text n out = lent (eqb (length (leading text)) n) (onto (leading text) out)

-- what a text reads as whose pairs were read
abbrev pub as_count : ℕ → Lent Bool → Lent (Option ℕ)
as_count n p = lent (if p.answer then Some n else None) p.buffer

-- the answer, and the buffer with the text's octets in front
unfoldable pub reading : List ℕ → List ℕ → Lent (Option ℕ)
reading text out =
    if same text (45 ∷ []) then lent (Some 0) out else
    if eqb (length text / 2) 0 then lent None out else
    if eqb (length text % 2) 1 then lent None out else
    if ltb (length out) (length text / 2) then lent None out else
    as_count (length text / 2) (reading_pairs text (length text / 2) out)

-- whether so many octets were read
abbrev pub counts : ℕ → Option ℕ → Bool
counts n (Some k) = eqb k n
counts n None = false

-- the same where the text is to have as many octets as the buffer
unfoldable pub filling : List ℕ → List ℕ → Lent Bool
filling text out = lent (counts (length out) (reading text out).answer) (reading text out).buffer

-- the two digits of each octet
unfoldable pub pairs : List ℕ → List ℕ
pairs [] = []
pairs (o ∷ l) = last_digits 16 2 o ++ pairs l

-- octets, written
abbrev pub hex_text : List ℕ → List ℕ
hex_text [] = 45 ∷ []
hex_text (o ∷ l) = pairs (o ∷ l)
