-- Numbers, read from 1 to 8 hex digits, and written in hex with zeros in front up to a width, in decimal, or as hundredths with a point.
--   number_of text               what a text reads as
--   at_most most number          a number that is at most so much
--   short_of, octet_of, bit_of   a number that is to have at most 16 bits, 8 bits, 1 bit
--   number_text w n              n in hex, in at least w digits
--   decimal_text n               n in decimal
--   hundredths_text below n      n hundredths in decimal, with two digits behind the point, and - in front where they are below 0
use Rattle.std.specs.Prelude.{Option, Some, None, option_map, option_and_then, Bool, ◌&&◌, List, [], ◌∷◌, ◌++◌, ℕ, ◌+◌, ◌*◌, ◌/◌, ◌%◌, ◌^◌, min, max, eqb, leb, ltb, length, if◌then◌else◌}
use Rattle.io.specs.Digits.{last_digits}
use Rattle.common.specs.Lists.{tab}
use Rattle.common.specs.Search.{first}
use Rattle.text.specs.Hex.{hex_value}
use Rattle.text.specs.Octets.{octets}

-- the digits of a text behind a number so far
unfoldable pub digits_behind : ℕ → List ℕ → Option ℕ
digits_behind n [] = Some n
digits_behind n (d ∷ text) = option_and_then (λ v. digits_behind (n * 16 + v) text) (hex_value d)

-- a text of 1 to 8 digits is a number
unfoldable pub number_of : List ℕ → Option ℕ
number_of text =
    if eqb (length text) 0 then None else
    if ltb 8 (length text) then None else
    digits_behind 0 text

-- a number that is at most so much
abbrev pub at_most : ℕ → Option ℕ → Option ℕ
at_most most (Some n) = if leb n most then Some n else None
at_most most None = None

-- a number of at most 16 bits
abbrev pub short_of : Option ℕ → Option ℕ
short_of = at_most 0xFFFF

-- a number of at most 8 bits
abbrev pub octet_of : Option ℕ → Option ℕ
octet_of = at_most 0xFF

-- 0 or 1: whether it is 1
abbrev pub bit_of : Option ℕ → Option Bool
bit_of number = option_map (λ n. eqb n 1) (at_most 1 number)

-- the fewest digits in base b, from `least` on and below `end`, that hold n
unfoldable pub places : ℕ → ℕ → ℕ → ℕ → ℕ
places b end least n = first (λ k. leb least k && ltb n (b ^ k)) (tab (λ k. k) end)

-- n in hex, in at least w digits; a width of 0 is one of 1, and one above 16 is 16
abbrev pub number_text : ℕ → ℕ → List ℕ
number_text w n = last_digits 16 (places 16 17 (min (max w 1) 16) n) n

-- n in decimal
abbrev pub decimal_text : ℕ → List ℕ
decimal_text n = last_digits 10 (places 10 21 1 n) n

-- in front of a number: - where it is below 0
abbrev pub sign_text : Bool → List ℕ
sign_text below = if below then octets "-" else []

-- n hundredths: the whole part, the point, and two digits behind it
unfoldable pub hundredths_text : Bool → ℕ → List ℕ
hundredths_text below n = sign_text below ++ decimal_text (n / 100) ++ octets "." ++ last_digits 10 2 (n % 100)
