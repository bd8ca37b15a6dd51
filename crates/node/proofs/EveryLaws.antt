-- None of the first n fails: `all` over them says so, and then each of the n passes.
-- Assumes nothing.
use mathlib.Core.Bool.{Bool, true, not}
use mathlib.Core.List.{List, [], ◌∷◌}
use mathlib.Core.Path.{◌≡◌, sym, ◌∙◌}
use Prim.Native.Nat.{ℕ, zero, suc, ◌≤◌, ◌<◌}
use native.Mathlib.Nat.{le_of_suc-le-suc, not-suc-le-zero}
use native.Mathlib.Omega.{arith}
use borrow.Author.Tests.{le-leb, lt-leb, leb-true, leb-false, not-false}
use lib.Dec.{leb}
use lib.ListN.{length, get_or, take}
use Rattle.std.specs.List.{list_all}
use Rattle.common.specs.Search.{first}
use Rattle.common.proofs.Search.{first_before}
use Rattle.common.proofs.Tests.{by_test}
use Rattle.node.specs.Setup.{every}

on_suc : (a b : ℕ) → leb a b ≡ leb (suc a) (suc b)
on_suc a b =
    by_test (leb a b) (λ t. let h = leb-true a b t in rw t (sym (le-leb (suc a) (suc b) (omega arith))))
    (λ t. let h = leb-false a b t in rw t (sym (lt-leb (suc a) (suc b) (omega arith))))

-- `all` over the first n
pub all_every : {A : Type 0} (p : A → Bool) (l : List A) (n : ℕ) → n ≤ length l → list_all p (take n l) ≡ every p n l
unfolding first
all_every p l zero h = sym (le-leb 0 (first (λ x. not (p x)) l) (omega arith))
all_every p [] (suc n) h = absurd (not-suc-le-zero h)
all_every p (x ∷ l) (suc n) h =
    by_test (p x)
    (λ t. rw t (all_every p l n (le_of_suc-le-suc h) ∙ on_suc n (first (λ x. not (p x)) l)))
    (λ t. rw t (sym (lt-leb (suc n) 0 (omega arith))))

-- each of the first n passes
pub every_each : {A : Type 0} (p : A → Bool) (n : ℕ) (l : List A) → every p n l ≡ true → (j : ℕ) (d : A) → j < n → p (get_or l j d) ≡ true
every_each p n l t j d h =
    not-false (p (get_or l j d))
    (first_before (λ x. not (p x)) l j d (omega (arith, leb-true n (first (λ x. not (p x)) l) t)))
