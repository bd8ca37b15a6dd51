-- A search through a list in the library's words: where `first` ends, `position` answers that place, and `any` whether there is one.
-- Assumes nothing.
use mathlib.Core.Bool.{Bool}
use mathlib.Core.List.{List, [], ◌∷◌}
use mathlib.Core.Path.{◌≡◌, refl, sym, ap, ◌∙◌}
use Prim.Native.Nat.{ℕ, zero, suc, min}
use native.Mathlib.Omega.{arith}
use borrow.Author.Tests.{lt-ltb, le-ltb, ltb-true, ltb-false}
use lib.Dec.{ltb}
use lib.ListN.{length, take}
use Rattle.std.specs.List.{list_any, position, position_or_len}
use Rattle.std.specs.Prelude.{Some, None, if◌then◌else◌}
use Rattle.std.proofs.lemmas.List.Recursion.{is_position_or_len}
use Rattle.common.specs.Search.{first}
use Rattle.common.proofs.Tests.{by_test}

on_suc : (a b : ℕ) → ltb a b ≡ ltb (suc a) (suc b)
on_suc a b =
    by_test (ltb a b) (λ t. let h = ltb-true a b t in rw t (sym (lt-ltb (suc a) (suc b) (omega arith))))
    (λ t. let h = ltb-false a b t in rw t (sym (le-ltb (suc a) (suc b) (omega arith))))

module _ {A : Type 0} (p : A → Bool) where
  pub first_is : (l : List A) → position_or_len p l ≡ first p l
  unfolding first
  first_is l = sym (is_position_or_len (first p) p refl (λ x xs. by_test (p x) (λ t. rw t refl) (λ t. rw t (omega arith))) l)

  -- the place, where there is one
  pub position_is : (l : List A) (n : ℕ) → length l ≡ n → position p l ≡ (if ltb (first p l) n then Some (first p l) else None)
  position_is l n e = rw (first_is l, e) refl

  -- whether there is one
  any_first : (l : List A) → list_any p l ≡ ltb (first p l) (length l)
  unfolding first
  any_first [] = refl
  any_first (x ∷ l) = by_test (p x) (λ t. rw t (sym (lt-ltb 0 (suc (length l)) (omega arith)))) (λ t. rw t (any_first l ∙ on_suc (first p l) (length l)))

  pub any_is : (l : List A) (n : ℕ) → length l ≡ n → list_any p l ≡ ltb (first p l) n
  any_is l n e = any_first l ∙ ap (ltb (first p l)) e

  -- the same of the first n elements, or of all where there are fewer
  any_first_n : (l : List A) (n : ℕ) → list_any p (take n l) ≡ ltb (first p l) (min n (length l))
  unfolding first
  any_first_n l zero = sym (le-ltb (first p l) (min 0 (length l)) (omega arith))
  any_first_n [] (suc n) = sym (le-ltb 0 (min (suc n) 0) (omega arith))
  any_first_n (x ∷ l) (suc n) =
      let m : min (suc n) (suc (length l)) ≡ suc (min n (length l)) = omega arith in
      by_test (p x) (λ t. rw (t, m) (sym (lt-ltb 0 (suc (min n (length l))) (omega arith)))) (λ t. rw (t, m) (any_first_n l n ∙ on_suc (first p l) (min n (length l))))

  pub any_of_first : (l : List A) (n m : ℕ) → length l ≡ m → list_any p (take n l) ≡ ltb (first p l) (min n m)
  any_of_first l n m e = any_first_n l n ∙ ap (λ (k : ℕ). ltb (first p l) (min n k)) e
