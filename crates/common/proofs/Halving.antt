-- Halving, over any test. Each look leaves at most half of the places, so where the looks are enough more make no difference: a loop's invariant is that the search from low to high is the
-- search of all. Where the test holds up to a place and not from there on, halving ends at that place. Assumes nothing.
--   reach                            how many places n looks settle
--   halve_enough                     more looks make no difference
--   Halving, halving_..              the loop's invariant
--   Falls, Found, halve_finds        what is found
use mathlib.Core.Bool.{Bool, true, false, false≢true}
use mathlib.Core.Path.{◌≡◌, refl, sym, ◌∙◌}
use Prim.Native.Nat.{ℕ, zero, suc, ◌+◌, ◌/◌, ◌≤◌, ◌<◌}
use native.Mathlib.Omega.{arith}
use borrow.Author.Tests.{lt-ltb, le-ltb, ltb-true, ltb-false}
use lib.Dec.{ltb}
use Rattle.common.specs.Halving.{halve}
use Rattle.common.proofs.Tests.{by_test}

abbrev pub reach : ℕ → ℕ
reach zero = 0
reach (suc n) = reach n + reach n + 1

module _ (p : ℕ → Bool) where
  -- nothing is left
  halve_none : (n low high : ℕ) → high ≤ low → halve n p low high ≡ low
  unfolding halve
  halve_none zero low high h = refl
  halve_none (suc n) low high h = rw (le-ltb low high h) refl

  pub halve_enough : (n m low high : ℕ) → high ≤ low + reach n → high ≤ low + reach m → halve n p low high ≡ halve m p low high
  unfolding halve
  halve_enough zero m low high hn hm = sym (halve_none m low high (omega arith))
  halve_enough (suc n) zero low high hn hm = halve_none (suc n) low high (omega arith)
  halve_enough (suc n) (suc m) low high hn hm =
      by_test (ltb low high)
      (λ t. let l = ltb-true low high t in
      by_test (p ((low + high) / 2))
      (λ u. rw (t, u) (halve_enough n m ((low + high) / 2 + 1) high (omega arith) (omega arith)))
      (λ u. rw (t, u) (halve_enough n m low ((low + high) / 2) (omega arith) (omega arith))))
      (λ t. rw t refl)

  -- ---- a loop that halves so many places, for which n + 1 looks are enough
  module _ (n places : ℕ) (enough : places ≤ reach (suc n)) where
    -- where it stands, and that the search of all is the search from here on
    pub record Halving (low high : ℕ) : Type 0 where
      pub ordered : low ≤ high
      pub within : high ≤ places
      pub same : halve (suc n) p 0 places ≡ halve (suc n) p low high

    pub halving_start : Halving 0 places
    halving_start = record { ordered = omega arith; within = omega arith; same = refl }

    module _ (low high : ℕ) (s : Halving low high) where
      module _ (h : low < high) where
        -- the test holds in the middle
        pub halving_up : p ((low + high) / 2) ≡ true → Halving ((low + high) / 2 + 1) high
        unfolding halve
        halving_up u =
            let w = s.within in
            record {
              ordered = omega arith;
              within = s.within;
              same = s.same ∙ rw (lt-ltb low high h, u) (halve_enough n (suc n) ((low + high) / 2 + 1) high (omega arith) (omega arith));
            }

        -- it does not
        pub halving_down : p ((low + high) / 2) ≡ false → Halving low ((low + high) / 2)
        unfolding halve
        halving_down u =
            let w = s.within in
            record {
              ordered = omega arith;
              within = omega arith;
              same = s.same ∙ rw (lt-ltb low high h, u) (halve_enough n (suc n) low ((low + high) / 2) (omega arith) (omega arith));
            }

      pub halving_ends : high ≤ low → low ≡ halve (suc n) p 0 places
      halving_ends h = sym (s.same ∙ halve_none (suc n) low high h)

  -- ---- what is found of a test that ceases to hold for good
  abbrev pub Falls : ℕ → Type 0
  Falls places = (i j : ℕ) → i < j → j < places → p j ≡ true → p i ≡ true

  -- it holds before the place k, and not from there on
  pub record Found (low high k : ℕ) : Type 0 where
    pub least : low ≤ k
    pub most : k ≤ high
    pub holds : (i : ℕ) → low ≤ i → i < k → p i ≡ true
    pub ceases : (i : ℕ) → k ≤ i → i < high → p i ≡ false

  module _ (places : ℕ) (falls : Falls places) where
    holds_upto : (m : ℕ) → m < places → p m ≡ true → (i : ℕ) → i ≤ m → p i ≡ true
    holds_upto m h t i l =
        by_test (ltb i m) (λ u. falls i m (ltb-true i m u) h t)
        (λ u. let v = ltb-false i m u in let e : i ≡ m = omega arith in rw e t)

    ceases_from : (m : ℕ) → p m ≡ false → (i : ℕ) → m ≤ i → i < places → p i ≡ false
    ceases_from m t i l h =
        by_test (p i)
        (λ u. by_test (ltb m i) (λ v. absurd (false≢true (sym t ∙ falls m i (ltb-true m i v) h u)))
        (λ v. let w = ltb-false m i v in let e : i ≡ m = omega arith in rw e t))
        (λ u. u)

    pub halve_finds : (n low high : ℕ) → low ≤ high → high ≤ places → high ≤ low + reach n → Found low high (halve n p low high)
    unfolding halve
    halve_finds zero low high l m e =
        record { least = omega arith; most = l; holds = λ i a b. absurd (omega arith); ceases = λ i a b. absurd (omega arith) }
    halve_finds (suc n) low high l m e =
        by_test (ltb low high)
        (λ t. let w = ltb-true low high t in
        by_test (p ((low + high) / 2))
        (λ u. let g = halve_finds n ((low + high) / 2 + 1) high (omega arith) m (omega arith) in
        rw (t, u)
        (record {
          least = omega (arith, g.least);
          most = g.most;
          holds = λ i a b.
              by_test (ltb i ((low + high) / 2 + 1))
              (λ v. let d = ltb-true i ((low + high) / 2 + 1) v in holds_upto ((low + high) / 2) (omega arith) u i (omega arith))
              (λ v. g.holds i (ltb-false i ((low + high) / 2 + 1) v) b);
          ceases = g.ceases;
        }))
        (λ u. let g = halve_finds n low ((low + high) / 2) (omega arith) (omega arith) (omega arith) in
        rw (t, u)
        (record {
          least = g.least;
          most = omega (arith, g.most);
          holds = g.holds;
          ceases = λ i a b.
              by_test (ltb i ((low + high) / 2))
              (λ v. g.ceases i a (ltb-true i ((low + high) / 2) v))
              (λ v. ceases_from ((low + high) / 2) u i (ltb-false i ((low + high) / 2) v) (omega arith));
        })))
        (λ t. let w = ltb-false low high t in
        rw t (record { least = omega arith; most = l; holds = λ i a b. absurd (omega arith); ceases = λ i a b. absurd (omega arith) }))
