-- The fields of a line: what stands between its spaces.
--   behind n line     what stands behind the n-th space
--   field_of n line   field number n, from 0
--   fields line       all of them
use Rattle.std.specs.Prelude.{Bool, List, [], ◌∷◌, ℕ, zero, suc, eqb, length, take, if◌then◌else◌}
use Rattle.common.specs.Lists.{tab}
use Rattle.common.specs.Search.{first, picked}

-- whether an octet is this one
abbrev pub is : ℕ → ℕ → Bool
is mark x = eqb x mark

-- what stands behind the n-th space: nothing where there are fewer
unfoldable pub behind : ℕ → List ℕ → List ℕ
behind zero l = l
behind (suc n) [] = []
behind (suc n) (x ∷ l) = if is 32 x then behind n l else behind (suc n) l

-- field number n, from 0: from there to the next space
unfoldable pub field_of : ℕ → List ℕ → List ℕ
field_of n line = take (first (is 32) (behind n line)) (behind n line)

-- its fields in order: one more than it has spaces
unfoldable pub fields : List ℕ → List (List ℕ)
fields line = tab (λ n. field_of n line) (suc (length (picked (is 32) line)))
