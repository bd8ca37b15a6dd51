-- An array that `array::from_fn` makes: where the closure computes h, the array is h's values.
-- Assumes nothing.
use mathlib.Core.Path.{◌≡◌, ◌∙◌, subst}
use mathlib.Core.List.{List}
use Prim.Native.Nat.{ℕ, zero, suc, ◌+◌, ◌≤◌, ◌<◌}
use native.Mathlib.Nat.{not-suc-le-zero, zero-add}
use native.Mathlib.Omega.{arith}
use denote.Param.Members.{Mut, Called}
use lib.ListN.{get_or}
use Rattle.std.specs.Array.{IsFromFnResult, IsFromFnResultFrom}
use Rattle.common.specs.Lists.{tab}
use Rattle.common.proofs.Lists.{tab_is}

module _ {F B : Type 0} (g : Mut F (ℕ × Unit {0}) B) (f : F) (h : ℕ → B) (m : ℕ)
    (computes : (i : ℕ) (y : B) (q : F) → i < m → Called g f (i, tt) y q → (q ≡ f) × (y ≡ h i)) where
  filled_from : (n i : ℕ) (ys : List B) (d : B) → i + n ≤ m → IsFromFnResultFrom g f ys i n → (k : ℕ) → k < n → get_or ys (i + k) d ≡ h (i + k)
  filled_from zero i ys d b r k l = absurd (not-suc-le-zero l)
  filled_from (suc n) i ys d b r zero l =
      let e : i ≡ i + 0 = omega arith in
      let c = computes i r.1 r.0 (omega arith) r.3 in
      subst (λ (j : ℕ). get_or ys j d ≡ h j) e (r.2.1 d ∙ c.1)
  filled_from (suc n) i ys d b r (suc k) l =
      let e : i + 1 + k ≡ i + suc k = omega arith in
      let c = computes i r.1 r.0 (omega arith) r.3 in
      subst (λ (j : ℕ). get_or ys j d ≡ h j) e
      (filled_from n (i + 1) ys d (omega arith) (subst (λ (p : F). IsFromFnResultFrom g p ys (i + 1) n) c.0 r.4) k (omega arith))

  pub from_fn_is : (d : B) (ys : List B) → IsFromFnResult g f ys m → ys ≡ tab h m
  from_fn_is d ys r =
      tab_is h d m ys r.long (λ k l. rw zero-add at (filled_from m 0 ys d (omega arith) r.each k l))
