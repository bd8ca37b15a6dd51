-- A number stands in a PDU as octets, high first.
--   octets n x   x as n octets
--   number l     the number that octets give
use Rattle.std.specs.Prelude.{List, [], ◌∷◌, ◌++◌, ℕ, zero, suc, ◌+◌, ◌*◌, ◌/◌, ◌%◌}

-- x as n octets: what is above them is left out
unfoldable pub octets : ℕ → ℕ → List ℕ
octets zero x = []
octets (suc n) x = octets n (x / 256) ++ (x % 256 ∷ [])

-- the number that octets give behind the number acc
unfoldable pub number_from : ℕ → List ℕ → ℕ
number_from acc [] = acc
number_from acc (x ∷ l) = number_from (acc * 256 + x) l

-- the number that octets give
unfoldable pub number : List ℕ → ℕ
number l = number_from 0 l
