-- Candidates that f makes of each element that is picked, put behind each other: what holds of each, how many there are, and where one of them stands.
-- Trials of them, group by group: `Grouping` is kept by a loop over the places below m that tries the candidates of each place picked, and counts on.
-- Assumes nothing.
use mathlib.Core.Bool.{Bool, true, false}
use mathlib.Core.List.{List, [], ◌∷◌, ◌++◌, map}
use mathlib.Core.Path.{◌≡◌, refl, ap, ◌∙◌}
use Prim.Native.Nat.{ℕ, zero, suc, ◌+◌, ◌*◌, ◌≤◌, ◌<◌}
use native.Mathlib.Nat.{suc-mul, le_of_suc-le-suc, not-suc-le-zero}
use native.Mathlib.Omega.{arith}
use lib.ListN.{length, get_or, drop, length-append, length-map, get_or-map}
use Rattle.common.specs.Lists.{joined}
use Rattle.common.specs.Search.{first, picked}
use Rattle.common.specs.Trials.{Outcome, Succeeded, Failed, tries_from, tries}
use Rattle.common.proofs.Picked.{picked_passes, picked_end, picked_skip, picked_next, places, length_places, place_at, picked_at}
use Rattle.common.proofs.Search.{first_upto}
use Rattle.common.proofs.Tests.{by_test, by_choice}

-- ---- what holds of each element
abbrev pub All : {A : Type 0} → (A → Type 0) → List A → Type 0
All P [] = Unit {0}
All P (x ∷ l) = P x × All P l

module _ {A : Type 0} (P : A → Type 0) where
  pub all_at : (l : List A) (d : A) → ((j : ℕ) → j < length l → P (get_or l j d)) → All P l
  all_at [] d f = tt
  all_at (x ∷ l) d f = (f 0 (omega arith), all_at l d (λ j h. f (suc j) (omega arith)))

  pub all_get : (l : List A) (k : ℕ) (d : A) → All P l → k < length l → P (get_or l k d)
  all_get [] k d a h = absurd (not-suc-le-zero h)
  all_get (x ∷ l) zero d a h = a.0
  all_get (x ∷ l) (suc k) d a h = all_get l k d a.1 (le_of_suc-le-suc h)

  pub all_append : (a b : List A) → All P a → All P b → All P (a ++ b)
  all_append [] b p q = q
  all_append (x ∷ a) b p q = (p.0, all_append a b p.1 q)

  pub all_map : {B : Type 0} (Q : B → Type 0) (f : B → A) (l : List B) → All Q l → ((x : B) → Q x → P (f x)) → All P (map f l)
  all_map Q f [] a g = tt
  all_map Q f (x ∷ l) a g = (g x a.0, all_map Q f l a.1 g)

  pub all_joined : {B : Type 0} (Q : B → Type 0) (f : B → List A) (l : List B) → All Q l → ((x : B) → Q x → All P (f x)) → All P (joined f l)
  unfolding joined
  all_joined Q f [] a g = tt
  all_joined Q f (x ∷ l) a g = all_append (f x) (joined f l) (g x a.0) (all_joined Q f l a.1 g)

  -- what holds of each candidate holds of the one that opens; there are no more trials than candidates
  pub tries_all :
      (o : A → Bool) (R : Outcome A → Type 0) (n : ℕ) (l : List A) → All P l
      → ((x : A) (k : ℕ) → P x → o x ≡ true → k < n + length l → R (Succeeded x (k + 1))) → R (Failed (n + length l)) → R (tries_from n o l)
  unfolding tries_from
  tries_all o R n [] a f g = let e : n + 0 ≡ n = omega arith in rw (← e) g
  tries_all o R n (x ∷ l) a f g =
      by_choice R (o x) (λ t. f x n a.0 t (omega arith))
      (λ t.
      let e : n + suc (length l) ≡ n + 1 + length l = omega arith in
      tries_all o R (n + 1) l a.1 (λ y k p q h. f y k p q (omega arith)) (rw (← e) g))

-- the places below m that are picked
pub all_picked : (c : ℕ → Bool) (m : ℕ) → All (λ i. (i < m) × (c i ≡ true)) (picked c (places m))
all_picked c m =
    all_at (λ i. (i < m) × (c i ≡ true)) (picked c (places m)) 0
    (λ k h.
    picked_passes c (λ i. i < m) 0 (places m) (λ j b. let l : j < m = omega (arith, length_places m) in rw (place_at m j l) l) k h)

-- ---- how many there are
pub length_joined : {A B : Type 0} (f : A → List B) (n : ℕ) (l : List A) → ((x : A) → length (f x) ≤ n) → length (joined f l) ≤ length l * n
unfolding joined
length_joined f n [] h = omega arith
length_joined f n (x ∷ l) h =
    let r = length_joined f n l h in
    let e : suc (length l) * n ≡ length l * n + n = suc-mul (length l) n in
    omega (arith, length-append (f x) (joined f l), h x)

-- ---- one of them is found
module _ {A : Type 0} (p : A → Bool) where
  abbrev pub Found : List A → Type 0
  Found l = first p l < length l

  pub found_at : (l : List A) (k : ℕ) (d : A) → k < length l → p (get_or l k d) ≡ true → Found l
  found_at l k d h t = omega (arith, first_upto p l k d t)

  found_front : (a b : List A) → Found a → Found (a ++ b)
  unfolding first
  found_front [] b h = absurd (not-suc-le-zero h)
  found_front (x ∷ a) b h =
      by_test (p x) (λ t. rw t (omega arith)) (λ t. rw t (let r = found_front a b (le_of_suc-le-suc (rw t at h)) in omega arith))

  found_behind : (a b : List A) → Found b → Found (a ++ b)
  unfolding first
  found_behind [] b h = h
  found_behind (x ∷ a) b h = let r = found_behind a b h in by_test (p x) (λ t. rw t (omega arith)) (λ t. rw t (omega arith))

  found_joined : {B : Type 0} (f : B → List A) (l : List B) (k : ℕ) (d : B) → k < length l → Found (f (get_or l k d)) → Found (joined f l)
  unfolding joined
  found_joined f [] k d h t = absurd (not-suc-le-zero h)
  found_joined f (x ∷ l) zero d h t = found_front (f x) (joined f l) t
  found_joined f (x ∷ l) (suc k) d h t = found_behind (f x) (joined f l) (found_joined f l k d (le_of_suc-le-suc h) t)

  -- among what is made of the places below m that are picked: i is one of them
  module _ (c : ℕ → Bool) (m i : ℕ) (h : i < m) (t : c i ≡ true) where
    pub found_picked : (f : ℕ → List A) → Found (f i) → Found (joined f (picked c (places m)))
    found_picked f g =
        let (k, b, e) = picked_at c m i h t in
        found_joined f (picked c (places m)) k 0 b (rw e g)

    pub found_mapped : (f : ℕ → A) → p (f i) ≡ true → Found (map f (picked c (places m)))
    found_mapped f g =
        let (k, b, e) = picked_at c m i h t in
        let l = picked c (places m) in
        found_at (map f l) k (f 0) (omega (arith, length-map l f, b)) (ap p (get_or-map f l k 0 ∙ ap f e) ∙ g)

-- ---- trials go on behind candidates of which none opens
abbrev pub behind : {A : Type 0} → Outcome A → (ℕ → Outcome A) → Outcome A
behind (Succeeded x n) f = Succeeded x n
behind (Failed n) f = f n

pub tries_append :
    {A : Type 0} (o : A → Bool) (n : ℕ) (a b : List A) → tries_from n o (a ++ b) ≡ behind (tries_from n o a) (λ k. tries_from k o b)
unfolding tries_from
tries_append o n [] b = refl
tries_append o n (x ∷ a) b = by_test (o x) (λ t. rw t) (λ t. rw t (tries_append o (n + 1) a b))

-- an outcome with n trials before it, and that of what f makes of the candidates
abbrev pub later : {A : Type 0} → ℕ → Outcome A → Outcome A
later n (Succeeded x k) = Succeeded x (n + k)
later n (Failed k) = Failed (n + k)

abbrev pub along : {A B : Type 0} → (A → B) → Outcome A → Outcome B
along f (Succeeded x k) = Succeeded (f x) k
along f (Failed k) = Failed k

pub tries_later : {A : Type 0} (o : A → Bool) (n k : ℕ) (l : List A) → tries_from (n + k) o l ≡ later n (tries_from k o l)
unfolding tries_from
tries_later o n k [] = refl
tries_later o n k (x ∷ l) =
    let e : n + k + 1 ≡ n + (k + 1) = omega arith in
    by_test (o x) (λ t. rw (t, e)) (λ t. rw (t, e) (tries_later o n (k + 1) l))

pub tries_map : {A B : Type 0} (f : A → B) (o : B → Bool) (n : ℕ) (l : List A) → tries_from n o (map f l) ≡ along f (tries_from n (λ x. o (f x)) l)
unfolding tries_from
tries_map f o n [] = refl
tries_map f o n (x ∷ l) = by_test (o (f x)) (λ t. rw t) (λ t. rw t (tries_map f o (n + 1) l))

-- ---- the loop: those of the places before i are tried, n of them, and none opens
pub record Grouping {B : Type 0} (c : ℕ → Bool) (f : ℕ → List B) (o : B → Bool) (m i n : ℕ) : Type 0 where
  pub within : i ≤ m
  pub rest : tries o (joined f (picked c (places m))) ≡ tries_from n o (joined f (picked c (drop i (places m))))

module _ {B : Type 0} (c : ℕ → Bool) (f : ℕ → List B) (o : B → Bool) (m : ℕ) where
  pub grouping_start : Grouping c f o m 0 0
  grouping_start = record { within = omega arith; rest = refl }

  module _ {i n : ℕ} (s : Grouping c f o m i n) where
    past : {r : Outcome B} (l : List ℕ) → picked c (drop i (places m)) ≡ l → tries_from n o (joined f l) ≡ r → tries o (joined f (picked c (places m))) ≡ r
    past l e g = s.rest ∙ ap (λ (k : List ℕ). tries_from n o (joined f k)) e ∙ g

    -- past the last place
    pub grouping_end : m ≤ i → tries o (joined f (picked c (places m))) ≡ Failed n
    unfolding tries_from joined
    grouping_end h = past [] (picked_end c (places m) i (omega (arith, length_places m))) refl

    module _ (h : i < m) where
      there : i < length (places m)
      there = omega (arith, length_places m)

      -- the place is not picked
      pub grouping_pass : c i ≡ false → Grouping c f o m (i + 1) n
      grouping_pass t =
          record { within = omega arith; rest = past (picked c (drop (i + 1) (places m))) (picked_skip c (places m) i 0 there (ap c (place_at m i h) ∙ t)) refl }

      -- it is picked: none of its candidates opens, or one does
      module _ (t : c i ≡ true) where
        next : picked c (drop i (places m)) ≡ i ∷ picked c (drop (i + 1) (places m))
        next =
            picked_next c (places m) i 0 there (ap c (place_at m i h) ∙ t)
            ∙ ap (λ (j : ℕ). j ∷ picked c (drop (i + 1) (places m))) (place_at m i h)

        group : {r : Outcome B} → tries_from n o (f i) ≡ r
            → tries_from n o (joined f (i ∷ picked c (drop (i + 1) (places m)))) ≡ behind r (λ k. tries_from k o (joined f (picked c (drop (i + 1) (places m)))))
        unfolding joined
        group e = tries_append o n (f i) (joined f (picked c (drop (i + 1) (places m)))) ∙ rw e

        pub grouping_fails : {k : ℕ} → tries_from n o (f i) ≡ Failed k → Grouping c f o m (i + 1) k
        grouping_fails e = record { within = omega arith; rest = past (i ∷ picked c (drop (i + 1) (places m))) next (group e) }

        pub grouping_succeeds : {x : B} {k : ℕ} → tries_from n o (f i) ≡ Succeeded x k → tries o (joined f (picked c (places m))) ≡ Succeeded x k
        grouping_succeeds e = past (i ∷ picked c (drop (i + 1) (places m))) next (group e)
