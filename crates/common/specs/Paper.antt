-- An answer as document 01 gives it. Each enum that is an answer has a definition `paper` that gives each of its cases so.
--   Paper       a refusal with its number, or a word; and the values beside it
--   number_of   the number, 0 where nothing is refused
--   bit         a bool among the values
--   ToldApart   no two answers are given alike
use Rattle.std.specs.Prelude.{Bool, List, ◌≡◌, ℕ, if◌then◌else◌}

pub data Paper (Word : Type 0) : Type 0 where
  -- the number of the table
  Refusal : (number : ℕ) (values : List ℕ) → Paper Word
  -- nothing is refused: what it is instead
  Given : (word : Word) (values : List ℕ) → Paper Word

abbrev pub number_of : {Word : Type 0} → Paper Word → ℕ
number_of (Refusal number values) = number
number_of (Given word values) = 0

abbrev pub bit : Bool → ℕ
bit b = if b then 1 else 0

abbrev pub ToldApart : {A P : Type 0} → (A → P) → Type 0
ToldApart {A} paper = (a b : A) → paper a ≡ paper b → a ≡ b
