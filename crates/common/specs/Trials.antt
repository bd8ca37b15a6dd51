-- Candidates tried one by one, stopping at the first that opens, for any element type and any test.
--   tries opens cs   which of the candidates cs opens, and how many of them were tried
use Rattle.std.specs.Prelude.{Bool, List, [], ◌∷◌, ℕ, ◌+◌, if◌then◌else◌}

-- what trials end with
pub data Outcome (A : Type 0) : Type 0 where
  -- this candidate opens, and was tried as the n-th
  Succeeded : A → ℕ → Outcome A
  -- n were tried, and none opens
  Failed : ℕ → Outcome A

-- the candidates in order, where n were tried before them
unfoldable pub tries_from : {A : Type 0} → ℕ → (A → Bool) → List A → Outcome A
tries_from n opens [] = Failed n
tries_from n opens (x ∷ cs) = if opens x then Succeeded x (n + 1) else tries_from (n + 1) opens cs

-- the candidates in order, stopping at the first that opens
abbrev pub tries : {A : Type 0} → (A → Bool) → List A → Outcome A
tries opens cs = tries_from 0 opens cs
