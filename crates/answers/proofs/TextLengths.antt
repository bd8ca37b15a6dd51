-- Texts have at most so many octets: each piece of a text has a bound of its own, whatever its numbers are, and the bounds of pieces behind each
-- other add up.
--   AtMost n text   the text has at most n octets
-- Assumes nothing.
use mathlib.Core.Bool.{Bool, true, false, ◌&&◌}
use mathlib.Core.Path.{◌≡◌, refl}
use mathlib.Core.List.{List, [], ◌∷◌, ◌++◌}
use Prim.Native.Nat.{ℕ, zero, suc, ◌+◌, ◌*◌, ◌/◌, ◌%◌, ◌^◌, ◌≤◌, min, max}
use Prim.Native.String.{String}
use native.Mathlib.Omega.{arith}
use lib.Dec.{leb, ltb}
use lib.ListN.{length, length-append}
use Rattle.io.specs.Digits.{last_digits, hex_digit_ascii}
use Rattle.common.specs.Lists.{tab}
use Rattle.common.proofs.Lists.{length_tab}
use Rattle.common.proofs.Search.{first_le}
use Rattle.text.specs.Octets.{octets}
use Rattle.text.specs.Hex.{pairs, hex_text}
use Rattle.text.specs.Number.{places, number_text, decimal_text, sign_text, hundredths_text}
use Rattle.answers.specs.Answer.{named}
use Rattle.answers.specs.Looking.{placed_text}

-- a bound of a text's length
pub record AtMost (n : ℕ) (text : List ℕ) : Type 0 where
  pub most : length text ≤ n

-- ---- pieces behind each other
module _ {m n : ℕ} where
  pub both : {s t : List ℕ} → AtMost m s → AtMost n t → AtMost (m + n) (s ++ t)
  both {s = s} {t = t} a b = omega (arith, length-append s t)

  -- a larger bound does as well
  pub wider : {t : List ℕ} → AtMost m t → m ≤ n → AtMost n t
  wider a h = omega arith

-- nothing
pub none : {n : ℕ} → AtMost n []
none = omega arith

-- at most k texts, each of at most m octets
pub placed_most :
    {A : Type 0} (f : ℕ → A → List ℕ) (m : ℕ) → ((i : ℕ) (x : A) → AtMost m (f i x)) → (k i : ℕ) (l : List A) → length l ≤ k
    → AtMost (k * m) (placed_text f i l)
unfolding placed_text
placed_most f m each k i [] h = omega arith
placed_most f m each zero i (x ∷ l) h = absurd (omega arith)
placed_most f m each (suc k) i (x ∷ l) h =
    let here : AtMost m (f i x) = each i x in
    let rest : AtMost (k * m) (placed_text f (suc i) l) = placed_most f m each k (suc i) l (omega arith) in
    omega (arith, length-append (f i x) (placed_text f (suc i) l))

-- ---- a label
pub label_most : (label : String) → AtMost (length (octets label)) (octets label)
label_most label = omega arith

-- ---- numbers
length_digits : (b k n : ℕ) → length (last_digits b k n) ≡ k
length_digits b zero n = refl
length_digits b (suc k) n = omega (arith, length-append (last_digits b k (n / b)) (hex_digit_ascii (n % b) ∷ []), length_digits b k (n / b))

-- as many digits as were looked through
digits_most : (b end least n : ℕ) → AtMost end (last_digits b (places b end least n) n)
unfolding places
digits_most b end least n =
    let p : ℕ → Bool = (λ (k : ℕ). leb least k && ltb n (b ^ k)) in
    let l : List ℕ = tab (λ (k : ℕ). k) end in
    omega (arith, length_digits b (places b end least n) n, first_le p l, length_tab (λ (k : ℕ). k) end)

pub number_most : (w n : ℕ) → AtMost 17 (number_text w n)
number_most w n = digits_most 16 17 (min (max w 1) 16) n

pub decimal_most : (n : ℕ) → AtMost 21 (decimal_text n)
decimal_most n = digits_most 10 21 1 n

sign_most : (below : Bool) → AtMost 1 (sign_text below)
sign_most true = omega arith
sign_most false = omega arith

pub hundredths_most : (below : Bool) (n : ℕ) → AtMost 25 (hundredths_text below n)
unfolding hundredths_text
hundredths_most below n =
    let two : AtMost 2 (last_digits 10 2 (n % 100)) = omega (arith, length_digits 10 2 (n % 100)) in
    both (both (both (sign_most below) (decimal_most (n / 100))) (label_most ".")) two

-- a label, and a number behind it
pub named_most : (label : String) (w n : ℕ) → AtMost (length (octets label) + 17) (named label w n)
named_most label w n = both (label_most label) (number_most w n)

-- ---- octets as pairs
length_pairs : (l : List ℕ) → length (pairs l) ≡ length l + length l
unfolding pairs
length_pairs [] = refl
length_pairs (o ∷ l) = omega (arith, length-append (last_digits 16 2 o) (pairs l), length_pairs l)

pub hex_most : (n : ℕ) (l : List ℕ) → length l ≤ n → AtMost (n + n + 1) (hex_text l)
hex_most n [] h = omega arith
hex_most n (o ∷ l) h = omega (arith, length_pairs (o ∷ l))
