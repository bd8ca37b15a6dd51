-- A list of places, each held under a key or empty, in which a key is looked for from the front. What is found has the key; setting a place changes only what is found of the key that
-- stood there and of the one that is put there; and no key stands twice where each is put into its own place, or into any while it has none. Of any elements and keys. Assumes nothing.
--   each_..      what holds at each place
--   Keyed        how the key of an element is read and compared, and which keys are none
--   place, free  where a key is found, and the first empty place
--   Apart        no key stands twice
use mathlib.Core.Bool.{Bool, true, false, true≢false}
use mathlib.Core.List.{List}
use mathlib.Core.Path.{◌≡◌, sym, ap, ◌∙◌, subst}
use Prim.Native.Nat.{ℕ, zero, suc, ◌≤◌, ◌<◌}
use native.Mathlib.Omega.{arith}
use borrow.Author.Tests.{eqb-true, eqb-false, ltb-true, ltb-false}
use lib.Dec.{eqb, ltb}
use lib.ListN.{length, get_or, replicate, set, length-set}
use lib.Seq.{get_or-set_same, get_or-set_other, set_out}
use Rattle.common.specs.Search.{first}
use Rattle.common.proofs.Search as search
use Rattle.common.proofs.Tests.{by_test}

-- ---- what holds at each place
module _ {A : Type 0} (P : A → Type 0) (d : A) where
  pub each_replicate : (n : ℕ) (x : A) → P x → P d → (i : ℕ) → P (get_or (replicate n x) i d)
  each_replicate zero x p z i = z
  each_replicate (suc n) x p z zero = p
  each_replicate (suc n) x p z (suc i) = each_replicate n x p z i

  -- of what is put into one of them, and of the others
  pub each_set : (l : List A) (j : ℕ) (x : A) → P x → ((i : ℕ) → P (get_or l i d)) → (i : ℕ) → P (get_or (set l j x) i d)
  each_set l j x p old i =
      by_test (eqb i j)
      (λ t.
      let e = eqb-true i j t in
      by_test (ltb j (length l)) (λ u. rw (e, get_or-set_same l j x d (ltb-true j (length l) u)) p) (λ u. rw (set_out l j x (ltb-false j (length l) u)) (old i)))
      (λ t. rw (get_or-set_other l j i x d (eqb-false i j t)) (old i))

pub record Keyed (A K : Type 0) : Type 0 where
  pub key : A → K
  pub same : K → K → Bool
  -- an empty place has such a one
  pub none : K → Bool
  pub same_told : (a b : K) → same a b ≡ true → a ≡ b
  pub same_self : (a : K) → same a a ≡ true

module _ {A K : Type 0} (k : Keyed A K) (d : A) where
  -- the place of a key
  abbrev pub place : List A → K → ℕ
  place l a = first (λ x. k.same (k.key x) a) l

  -- the first empty place
  abbrev pub free : List A → ℕ
  free l = first (λ x. k.none (k.key x)) l

  -- the key that stands at a place
  abbrev pub key_at : List A → ℕ → K
  key_at l i = k.key (get_or l i d)

  -- it holds something
  abbrev pub Used : List A → ℕ → Type 0
  Used l i = k.none (key_at l i) ≡ false

  -- no key stands twice among the first n
  abbrev pub Apart : ℕ → List A → Type 0
  Apart n l = (i j : ℕ) → i < n → j < n → Used l i → key_at l i ≡ key_at l j → i ≡ j

  same_is : (a b : K) → a ≡ b → k.same a b ≡ true
  same_is a b e = subst (λ (c : K). k.same a c ≡ true) e (k.same_self a)

  differ : (a b : K) → (a ≡ b → ⊥) → k.same a b ≡ false
  differ a b n = by_test (k.same a b) (λ t. absurd (n (k.same_told a b t))) (λ t. t)

  module _ (l : List A) where
    -- what is found has the key
    pub found_key : (a : K) → place l a < length l → key_at l (place l a) ≡ a
    found_key a h = k.same_told _ a (search.first_passes (λ x. k.same (k.key x) a) l d h)

    -- and nothing before it has
    pub place_upto : (a : K) (j : ℕ) → key_at l j ≡ a → place l a ≤ j
    place_upto a j e = search.first_upto (λ x. k.same (k.key x) a) l j d (same_is (key_at l j) a e)

    -- one that stands nowhere is not found
    pub place_nowhere : (a : K) → ((i : ℕ) → key_at l i ≡ a → ⊥) → length l ≤ place l a
    place_nowhere a none = by_test (ltb (place l a) (length l)) (λ t. absurd (none _ (found_key a (ltb-true (place l a) (length l) t)))) (ltb-false (place l a) (length l))

    -- the first empty place is empty
    pub free_none : free l < length l → k.none (key_at l (free l)) ≡ true
    free_none h = search.first_passes (λ x. k.none (k.key x)) l d h

    -- what stands before it is used
    pub free_past : (i : ℕ) → i < free l → Used l i
    free_past i h = search.first_before (λ x. k.none (k.key x)) l i d h

  -- ---- a place is set
  module _ (l : List A) (i : ℕ) (x : A) where
    -- no place before i has its key: i is its place, or it has none
    module _ (within : i < length l) (before : i ≤ place l (k.key x)) where
      pub place_set_own : place (set l i x) (k.key x) ≡ i
      place_set_own = search.first_set_here (λ y. k.same (k.key y) (k.key x)) l i x within before (k.same_self (k.key x))

      pub found_set_own : get_or (set l i x) (place (set l i x) (k.key x)) d ≡ x
      found_set_own = ap (λ (j : ℕ). get_or (set l i x) j d) place_set_own ∙ get_or-set_same l i x d within

    -- a key that is neither the new one nor the old
    module _ (a : K) (new : a ≡ k.key x → ⊥) (old : a ≡ key_at l i → ⊥) where
      other_new : k.same (k.key x) a ≡ false
      other_new = differ (k.key x) a (λ q. new (sym q))

      other_old : k.same (key_at l i) a ≡ false
      other_old = differ (key_at l i) a (λ q. old (sym q))

      pub place_set_other : place (set l i x) a ≡ place l a
      place_set_other = search.first_set_other (λ y. k.same (k.key y) a) l i x d other_new other_old

      pub found_set_other : get_or (set l i x) (place (set l i x) a) d ≡ get_or l (place l a) d
      found_set_other = search.found_set_other (λ y. k.same (k.key y) a) l i x d other_new other_old

    -- its only place is set to another: it has none
    module _ (n : ℕ) (long : length l ≡ n) where
      set_at : (j : ℕ) → j ≡ i → j < n → key_at (set l i x) j ≡ k.key x
      set_at j e h = rw e (ap k.key (get_or-set_same l i x d (omega arith)))

      kept_at : (j : ℕ) → (j ≡ i → ⊥) → key_at (set l i x) j ≡ key_at l j
      kept_at j e = ap k.key (get_or-set_other l i j x d e)

      pub gone : (a : K) → (a ≡ k.key x → ⊥) → ((j : ℕ) → j < n → key_at l j ≡ a → j ≡ i) → n ≤ place (set l i x) a
      gone a z only =
          let j = place (set l i x) a in
          by_test (ltb j n)
          (λ t.
          let h = ltb-true j n t in
          let e = found_key (set l i x) a (rw (length-set l i x) (omega arith)) in
          by_test (eqb j i) (λ u. absurd (z (sym e ∙ set_at j (eqb-true j i u) h)))
          (λ u. let m = eqb-false j i u in absurd (m (only j h (sym (kept_at j m) ∙ e)))))
          (λ t. ltb-false j n t)

      -- ---- no key stands twice
      module _ (a : Apart n l) where
        -- its key stood nowhere else
        apart_set : ((j : ℕ) → j < n → k.none (k.key x) ≡ false → key_at l j ≡ k.key x → j ≡ i) → Apart n (set l i x)
        apart_set only p q hp hq u e =
            by_test (eqb p i)
            (λ t. let ep = eqb-true p i t in
            let sp = set_at p ep hp in
            by_test (eqb q i) (λ v. ep ∙ sym (eqb-true q i v))
            (λ v. ep ∙ sym (only q hq (subst (λ (y : K). k.none y ≡ false) sp u) (sym (kept_at q (eqb-false q i v)) ∙ sym e ∙ sp))))
            (λ t. let sp = kept_at p (eqb-false p i t) in
            by_test (eqb q i)
            (λ v. let eq = eqb-true q i v in
            let sq = set_at q eq hq in
            only p hp (subst (λ (y : K). k.none y ≡ false) (e ∙ sq) u) (sym sp ∙ e ∙ sq) ∙ sym eq)
            (λ v. a p q hp hq (subst (λ (y : K). k.none y ≡ false) sp u) (sym sp ∙ e ∙ kept_at q (eqb-false q i v))))

        -- the place is emptied
        pub apart_emptied : k.none (k.key x) ≡ true → Apart n (set l i x)
        apart_emptied t = apart_set (λ j h z e. absurd (true≢false (sym t ∙ z)))

        -- it is put into its key's place, or it has none
        pub apart_put : (place l (k.key x) < n → i ≡ place l (k.key x)) → Apart n (set l i x)
        apart_put own =
            let p = place l (k.key x) in
            by_test (ltb p n)
            (λ t.
            let h = ltb-true p n t in
            let there = found_key l (k.key x) (omega arith) in
            apart_set (λ j hj z e. a j p hj h (subst (λ (y : K). k.none y ≡ false) (sym e) z) (e ∙ sym there) ∙ sym (own h)))
            (λ t.
            let h = ltb-false p n t in
            apart_set (λ j hj z e. let u = place_upto l (k.key x) j e in absurd (omega arith)))
