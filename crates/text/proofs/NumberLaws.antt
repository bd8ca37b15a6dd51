-- Numbers: digit by digit a number of i hex digits is below 16 to the power i, and eight digits fit 32 bits; the rules of what a text reads as; and
-- the fewest digits that hold a number.
-- Assumes nothing.
use mathlib.Core.Path.{◌≡◌, sym, ap, ◌∙◌}
use mathlib.Core.Bool.{Bool, true, ◌&&◌}
use mathlib.Core.List.{List}
use Prim.Native.Nat.{ℕ, suc, ◌+◌, ◌-◌, ◌*◌, ◌^◌, ◌≤◌, ◌<◌}
use native.Mathlib.Nat.{pow-suc, pow-le-pow_right}
use native.Mathlib.Numerals.{add-one}
use native.Mathlib.Omega.{arith}
use borrow.Author.Tests.{lt-ltb, le-leb, leb-true, ltb-true, ltb-false}
use lib.Dec.{leb, ltb}
use lib.ListN.{length, get_or, drop}
use lib.Seq.{drop-cons}
use Rattle.std.specs.Prelude.{Some, option_and_then}
use Rattle.io.specs.Digits.{IsDigitCount}
use Rattle.common.specs.Lists.{tab}
use Rattle.common.specs.Search.{first}
use Rattle.common.proofs.Lists.{length_tab, get_d_tab}
use Rattle.common.proofs.Search.{first_upto, first_passes}
use Rattle.common.proofs.Tests.{by_test, and_first, and_second}
use Rattle.text.specs.Hex.{hex_value}
use Rattle.text.specs.Number.{digits_behind, places}
use Rattle.text.proofs.FieldLaws.{drop_past}

-- with one digit more
pub digit_more : (i n d : ℕ) → n < 16 ^ i → d ≤ 15 → n * 16 + d < 16 ^ (i + 1)
digit_more i n d below h = rw (add-one, pow-suc 16 i) (omega arith)

-- with one of at most eight digits it fits
pub digit_fits : (i n d : ℕ) → i < 8 → n < 16 ^ i → d ≤ 15 → n * 16 + d < 4294967296
digit_fits i n d h below small =
    let more : n * 16 + d < 16 ^ (i + 1) = digit_more i n d below small in
    let most : 16 ^ (i + 1) ≤ 16 ^ 8 = pow-le-pow_right (omega arith) {j = 8} (omega arith) in
    omega (arith, more, most)

-- ---- the digits from i on
module _ (text : List ℕ) (i n : ℕ) where
  pub digits_end : length text ≤ i → digits_behind n (drop i text) ≡ Some n
  unfolding digits_behind
  digits_end h = rw (drop_past text i h)

  pub digits_on : i < length text → digits_behind n (drop i text) ≡ option_and_then (λ d. digits_behind (n * 16 + d) (drop (i + 1) text)) (hex_value (get_or text i 0))
  unfolding digits_behind
  digits_on h = rw (drop-cons text i 0 h, add-one i)

-- ---- the fewest digits in base b that hold n, which is below b to the power m
module _ (b m least n k : ℕ) (base : 1 < b) (f : IsDigitCount b least n k) (small : n < b ^ m) (wide : least ≤ m) where
  -- m digits are enough
  fewest_le : k ≤ m
  fewest_le =
      by_test (ltb m k)
      (λ t.
      let more : m < k = ltb-true m k t in
      let high : b ^ (k - 1) ≤ n = f.2 (omega arith) in
      let over : b ^ m ≤ b ^ (k - 1) = pow-le-pow_right (omega arith) {i = m} {j = k - 1} (omega arith) in
      absurd (omega arith))
      (λ t. ltb-false m k t)

  pub places_is : k ≡ places b (suc m) least n
  unfolding places
  places_is =
      let p : ℕ → Bool = (λ (j : ℕ). leb least j && ltb n (b ^ j)) in
      let l : List ℕ = tab (λ (j : ℕ). j) (suc m) in
      let h : k ≤ m = fewest_le in
      let long : length l ≡ suc m = length_tab (λ (j : ℕ). j) (suc m) in
      let holds : p k ≡ true = rw (le-leb least k f.0, lt-ltb n (b ^ k) f.1) in
      let up : first p l ≤ k = first_upto p l k 0 (ap p (get_d_tab (λ (j : ℕ). j) (suc m) k 0 (omega arith)) ∙ holds) in
      let j = first p l in
      let found : p j ≡ true = ap p (sym (get_d_tab (λ (i : ℕ). i) (suc m) j 0 (omega arith))) ∙ first_passes p l 0 (omega arith) in
      let from : least ≤ j = leb-true least j (and_first (leb least j) (ltb n (b ^ j)) found) in
      let fits : n < b ^ j = ltb-true n (b ^ j) (and_second (leb least j) (ltb n (b ^ j)) found) in
      by_test (ltb j k)
      (λ t.
      let less : j < k = ltb-true j k t in
      let high : b ^ (k - 1) ≤ n = f.2 (omega arith) in
      let over : b ^ j ≤ b ^ (k - 1) = pow-le-pow_right (omega arith) {j = k - 1} (omega arith) in
      absurd (omega arith))
      (λ t. omega (arith, ltb-false j k t))
