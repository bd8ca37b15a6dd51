-- Transport PDUs in one list of octets: each stands behind one octet with its length.
--   pdus list       the PDUs that a list holds
--   written l       PDUs, written so
--   ListReadsBack   what was written is read back
use Rattle.std.specs.Prelude.{List, [], ◌∷◌, ◌++◌, ◌≡◌, ℕ, zero, suc, length, take, drop}

-- at most n PDUs; a length counts as far as there are octets
unfoldable pub cut : ℕ → List ℕ → List (List ℕ)
cut zero list = []
cut (suc n) [] = []
cut (suc n) (len ∷ list) = take len list ∷ cut n (drop len list)

-- no list has more PDUs than octets
unfoldable pub pdus : List ℕ → List (List ℕ)
pdus list = cut (length list) list

-- each PDU behind its length
unfoldable pub written : List (List ℕ) → List ℕ
written [] = []
written (p ∷ l) = length p ∷ (p ++ written l)

-- so there is a list for any PDUs
abbrev pub ListReadsBack : Type 0
ListReadsBack = (l : List (List ℕ)) → pdus (written l) ≡ l
