-- Trials of candidates, of any element type. `tries_each`: the candidate that opens is one of them, none before it opens, and its trials are its place
-- from 1; where none opens, the trials are their number. A loop that tries the candidates picked of a list keeps `Trying`.
-- Then the same of places picked below n. Assumes nothing.
use mathlib.Core.Bool.{Bool, true, false, true≢false}
use mathlib.Core.List.{List, [], ◌∷◌, ◌++◌}
use mathlib.Core.Path.{◌≡◌, refl, sym, ap, subst, ◌∙◌}
use Prim.Native.Nat.{ℕ, zero, suc, ◌+◌, ◌≤◌, ◌<◌}
use native.Mathlib.Nat.{not-suc-le-zero}
use native.Mathlib.Omega.{arith}
use borrow.Author.Tests.{ltb-true, ltb-false}
use lib.Dec.{ltb}
use lib.ListN.{length, get_or, drop}
use Rattle.common.specs.Search.{picked}
use Rattle.common.specs.Trials.{Outcome, Succeeded, Failed, tries_from, tries}
use Rattle.common.proofs.Picked.{picked_passes, picked_end, picked_skip, picked_next, places, length_places, place_at, picked_split}
use Rattle.common.proofs.Tests.{by_test, by_choice}

-- the candidate at place k opens, and none before it
pub record OpensAt {A : Type 0} (o : A → Bool) (l : List A) (d : A) (k : ℕ) : Type 0 where
  pub within : k < length l
  pub passes : o (get_or l k d) ≡ true
  pub none_before : (j : ℕ) → j < k → o (get_or l j d) ≡ false

-- a loop over the elements of l that tries those that c picks is at place i behind n trials: the whole ends as those from i on do
pub record Trying {A : Type 0} (c o : A → Bool) (l : List A) (i n : ℕ) : Type 0 where
  pub rest : tries o (picked c l) ≡ tries_from n o (picked c (drop i l))

module _ {A : Type 0} (o : A → Bool) (d : A) where
  -- none of the candidates opens
  abbrev pub NoneOpens : List A → Type 0
  NoneOpens l = (j : ℕ) → j < length l → o (get_or l j d) ≡ false

  opens_later : (x : A) (l : List A) (k : ℕ) → o x ≡ false → OpensAt o l d k → OpensAt o (x ∷ l) d (suc k)
  opens_later x l k f e =
      record { within = omega (arith, e.within); passes = e.passes; none_before = none_there }
    where
      none_there : (j : ℕ) → j < suc k → o (get_or (x ∷ l) j d) ≡ false
      none_there zero h = f
      none_there (suc j) h = e.none_before j (omega arith)

  none_later : (x : A) (l : List A) → o x ≡ false → NoneOpens l → NoneOpens (x ∷ l)
  none_later x l f e zero h = f
  none_later x l f e (suc j) h = e j (omega arith)

  each_from :
      (P : Outcome A → Type 0) (n : ℕ) (l : List A) → ((k : ℕ) → OpensAt o l d k → P (Succeeded (get_or l k d) (n + k + 1)))
      → (NoneOpens l → P (Failed (n + length l))) → P (tries_from n o l)
  unfolding tries_from
  each_from P n [] f g = let e : n + 0 ≡ n = omega arith in subst (λ (m : ℕ). P (Failed m)) e (g (λ j h. absurd (not-suc-le-zero h)))
  each_from P n (x ∷ l) f g =
      by_choice P (o x)
      (λ t.
      let e : n + 0 + 1 ≡ n + 1 = omega arith in
      subst (λ (m : ℕ). P (Succeeded x m)) e (f 0 (record { within = omega arith; passes = t; none_before = λ j h. absurd (not-suc-le-zero h) })))
      (λ t.
      each_from P (n + 1) l
      (λ k e. let m : n + suc k + 1 ≡ n + 1 + k + 1 = omega arith in subst (λ (i : ℕ). P (Succeeded (get_or l k d) i)) m (f (suc k) (opens_later x l k t e)))
      (λ e. let m : n + suc (length l) ≡ n + 1 + length l = omega arith in subst (λ (i : ℕ). P (Failed i)) m (g (none_later x l t e))))

  -- what holds of either way that trials may end holds of them
  pub tries_each :
      (P : Outcome A → Type 0) (l : List A) → ((k : ℕ) → OpensAt o l d k → P (Succeeded (get_or l k d) (k + 1)))
      → (NoneOpens l → P (Failed (length l))) → P (tries o l)
  tries_each P l f g =
      each_from P 0 l
      (λ k e. let m : k + 1 ≡ 0 + k + 1 = omega arith in subst (λ (i : ℕ). P (Succeeded (get_or l k d) i)) m (f k e))
      (λ e. let m : length l ≡ 0 + length l = omega arith in subst (λ (i : ℕ). P (Failed i)) m (g e))

  -- and where one is known to open, and none before it, they end with it
  pub tries_opens_at : (l : List A) (k : ℕ) → OpensAt o l d k → tries o l ≡ Succeeded (get_or l k d) (k + 1)
  tries_opens_at l k e =
      tries_each (λ r. r ≡ Succeeded (get_or l k d) (k + 1)) l
      (λ j f. ap (λ (i : ℕ). Succeeded (get_or l i d) (i + 1)) (omega (arith, before f e, before e f)))
      (λ none. absurd (true≢false (sym e.passes ∙ none k e.within)))
    where
      before : {i j : ℕ} → OpensAt o l d i → OpensAt o l d j → i ≤ j
      before {i} {j} a b = by_test (ltb j i) (λ t. absurd (true≢false (sym b.passes ∙ a.none_before j (ltb-true j i t)))) (λ t. ltb-false j i t)

module _ {A : Type 0} (c o : A → Bool) where
  -- where none of those picked before it opens, x is found behind them
  pub tries_behind :
      (n : ℕ) (l b : List A) (x d : A) → ((j : ℕ) → j < length l → c (get_or l j d) ≡ true → o (get_or l j d) ≡ false) → o x ≡ true
      → tries_from n o (picked c l ++ x ∷ b) ≡ Succeeded x (n + length (picked c l) + 1)
  unfolding tries_from picked
  tries_behind n [] b x d f t = let e : n + 1 ≡ n + 0 + 1 = omega arith in rw t (ap (Succeeded x) e)
  tries_behind n (y ∷ l) b x d f t =
      let e : n + 1 + length (picked c l) + 1 ≡ n + suc (length (picked c l)) + 1 = omega arith in
      by_test (c y)
      (λ s. rw (s, f 0 (omega arith) s) (tries_behind (n + 1) l b x d (λ j m. f (suc j) (omega arith)) t ∙ ap (Succeeded x) e))
      (λ s. rw s (tries_behind n l b x d (λ j m. f (suc j) (omega arith)) t))

  -- ---- the loop
  module _ (l : List A) where
    pub trying_start : Trying c o l 0 0
    trying_start = record { rest = refl }

    module _ {i n : ℕ} (s : Trying c o l i n) where
      past : {r : Outcome A} (m : List A) → picked c (drop i l) ≡ m → tries_from n o m ≡ r → tries o (picked c l) ≡ r
      past m e f = s.rest ∙ ap (tries_from n o) e ∙ f

      pub trying_end : length l ≤ i → tries o (picked c l) ≡ Failed n
      unfolding tries_from
      trying_end h = past [] (picked_end c l i h) refl

      module _ (d : A) (h : i < length l) where
        -- the element at i is no candidate
        pub trying_pass : c (get_or l i d) ≡ false → Trying c o l (i + 1) n
        trying_pass f = record { rest = past (picked c (drop (i + 1) l)) (picked_skip c l i d h f) refl }

        -- it is a candidate, and does not open; or it opens
        module _ (t : c (get_or l i d) ≡ true) where
          pub trying_fails : o (get_or l i d) ≡ false → Trying c o l (i + 1) (n + 1)
          unfolding tries_from
          trying_fails f = record { rest = past (get_or l i d ∷ picked c (drop (i + 1) l)) (picked_next c l i d h t) (rw f) }

          pub trying_succeeds : o (get_or l i d) ≡ true → tries o (picked c l) ≡ Succeeded (get_or l i d) (n + 1)
          unfolding tries_from
          trying_succeeds f = past (get_or l i d ∷ picked c (drop (i + 1) l)) (picked_next c l i d h t) (rw f)

-- ---- the same of the places below m
module _ (c o : ℕ → Bool) where
  -- the one that opens is a place below m that was picked; there are no more trials than were picked
  pub tries_places :
      (P : Outcome ℕ → Type 0) (m : ℕ)
      → ((i k : ℕ) → i < m → c i ≡ true → o i ≡ true → k < length (picked c (places m)) → P (Succeeded i (k + 1)))
      → P (Failed (length (picked c (places m)))) → P (tries o (picked c (places m)))
  tries_places P m f g =
      tries_each o 0 P (picked c (places m))
      (λ k e.
      let low =
      picked_passes c (λ i. i < m) 0 (places m)
      (λ j h. let l : j < m = omega (arith, length_places m) in rw (place_at m j l) l) k e.within in
      f (get_or (picked c (places m)) k 0) k low.0 low.1 e.passes e.within)
      (λ _. g)

  -- i is picked and opens, and none that is picked before it does: its trials are those before it, and its own
  pub tries_at :
      (m i : ℕ) → i < m → c i ≡ true → o i ≡ true → ((j : ℕ) → j < i → c j ≡ true → o j ≡ false)
      → tries o (picked c (places m)) ≡ Succeeded i (length (picked c (places i)) + 1)
  tries_at m i h t u none =
      let e : 0 + length (picked c (places i)) + 1 ≡ length (picked c (places i)) + 1 = omega arith in
      ap (tries o) (picked_split c m i h t)
      ∙ tries_behind c o 0 (places i) (picked c (drop (suc i) (places m))) i 0
      (λ j b e. let l : j < i = omega (arith, length_places i) in rw (place_at i j l) (none j l (rw (place_at i j l) at e))) u
      ∙ ap (Succeeded i) e

  -- a loop over them
  module _ (m : ℕ) where
    abbrev pub Visited : ℕ → ℕ → Type 0
    Visited i n = (i ≤ m) × Trying c o (places m) i n

    pub visited_start : Visited 0 0
    visited_start = (omega arith, trying_start c o (places m))

    module _ {i n : ℕ} (s : Visited i n) where
      -- past the last place
      pub visited_end : m ≤ i → tries o (picked c (places m)) ≡ Failed n
      visited_end h = trying_end c o (places m) s.1 (omega (arith, length_places m))

      module _ (h : i < m) where
        there : i < length (places m)
        there = omega (arith, length_places m)

        pub visited_pass : c i ≡ false → Visited (i + 1) n
        visited_pass f = (omega arith, trying_pass c o (places m) s.1 0 there (ap c (place_at m i h) ∙ f))

        module _ (t : c i ≡ true) where
          pub visited_tried : o i ≡ false → Visited (i + 1) (n + 1)
          visited_tried f = (omega arith, trying_fails c o (places m) s.1 0 there (ap c (place_at m i h) ∙ t) (ap o (place_at m i h) ∙ f))

          pub visited_opens : o i ≡ true → tries o (picked c (places m)) ≡ Succeeded i (n + 1)
          visited_opens f =
              trying_succeeds c o (places m) s.1 0 there (ap c (place_at m i h) ∙ t) (ap o (place_at m i h) ∙ f)
              ∙ ap (λ (j : ℕ). Succeeded j (n + 1)) (place_at m i h)
