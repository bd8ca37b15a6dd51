-- Where every key of a list belongs to one of a few owners, and no key stands twice, a place is empty: else there were more places than owners. So eight speakers find a slot each, and the
-- replay entries are never used up by fewer sources than there are entries. Assumes nothing.
--   Owned                   every key of a list is one of n owners'
--   place_free, slot_free   the two uses
use mathlib.Core.Bool.{false}
use mathlib.Core.List.{List}
use mathlib.Core.Path.{◌≡◌, sym, ap, ◌∙◌, subst}
use Prim.Native.Nat.{ℕ, zero, suc, ◌≤◌, ◌<◌}
use native.Mathlib.Omega.{arith}
use borrow.Author.Tests.{eqb-true, eqb-false, ltb-true, ltb-false}
use lib.Dec.{eqb, ltb}
use lib.ListN.{length, set}
use lib.Seq.{get_or-set_same, get_or-set_other}
use Rattle.std.specs.Prelude.{if◌then◌else◌}
use Rattle.common.proofs.Tests.{by_test}
use Rattle.memory.proofs.Keyed.{Keyed, place, free, key_at, Used, Apart, place_upto, free_past}

-- ---- more things than places do not go into them one each: take the last thing away, and let whichever thing had the last place have its place instead
-- n things, each with a place below m, no two with one
record Placed (n m : ℕ) (f : ℕ → ℕ) : Type 0 where
  into : (i : ℕ) → i < n → f i < m
  apart : (i j : ℕ) → i < n → j < n → f i ≡ f j → i ≡ j

module _ (n m : ℕ) (f : ℕ → ℕ) (p : Placed (suc n) (suc m) f) where
  abbrev moved : ℕ → ℕ
  moved i = if eqb (f i) m then f n else f i

  fewer : Placed n m moved
  fewer =
      record {
        into = λ i h.
            let a = p.into i (omega arith) in
            let b = p.into n (omega arith) in
            by_test (eqb (f i) m)
            (λ t. let e = eqb-true (f i) m t in
            rw t (by_test (eqb (f n) m)
            (λ u. let z = p.apart i n (omega arith) (omega arith) (e ∙ sym (eqb-true (f n) m u)) in absurd (omega arith))
            (λ u. let z = eqb-false (f n) m u in omega arith)))
            (λ t. let z = eqb-false (f i) m t in rw t (omega arith));
        apart = λ i j hi hj e.
            by_test (eqb (f i) m)
            (λ t. by_test (eqb (f j) m)
            (λ u. p.apart i j (omega arith) (omega arith) (eqb-true (f i) m t ∙ sym (eqb-true (f j) m u)))
            (λ u. let z = p.apart n j (omega arith) (omega arith) (rw (t, u) at e) in absurd (omega arith)))
            (λ t. by_test (eqb (f j) m)
            (λ u. let z = p.apart i n (omega arith) (omega arith) (rw (t, u) at e) in absurd (omega arith))
            (λ u. p.apart i j (omega arith) (omega arith) (rw (t, u) at e)));
      }

no_more : (m n : ℕ) (f : ℕ → ℕ) → Placed n m f → n ≤ m
no_more m zero f p = omega arith
no_more zero (suc n) f p = let a = p.into 0 (omega arith) in absurd (omega arith)
no_more (suc m) (suc n) f p = let a = no_more m n (moved n m f p) (fewer n m f p) in omega arith

-- ---- where the keys have owners
module _ {A K : Type 0} (k : Keyed A K) (d : A) (places : ℕ) (n : ℕ) (owner_key : ℕ → K) where
  -- each of the places is empty, or its key is the owner's that it belongs to
  pub record Owned (l : List A) : Type 0 where
    pub owner : ℕ → ℕ
    pub owned : (i : ℕ) → i < places → Used k d l i → (owner i < n) × (key_at k d l i ≡ owner_key (owner i))

  module _ (l : List A) (o : Owned l) (long : length l ≡ places) where
    -- a place is set for owner m, or emptied
    pub owned_set : (p : ℕ) (x : A) (m : ℕ) → m < n → (k.none (k.key x) ≡ false → k.key x ≡ owner_key m) → Owned (set l p x)
    owned_set p x m h e =
        record {
          owner = λ i. if eqb i p then m else o.owner i;
          owned = λ i w z.
              by_test (eqb i p)
              (λ t.
              let q = eqb-true i p t in
              let s : key_at k d (set l p x) i ≡ k.key x = rw q (ap k.key (get_or-set_same l p x d (omega arith))) in
              rw t (h, s ∙ e (subst (λ (y : K). k.none y ≡ false) s z)))
              (λ t.
              let s = ap k.key (get_or-set_other l p i x d (eqb-false i p t)) in
              let b = o.owned i w (subst (λ (y : K). k.none y ≡ false) s z) in
              rw t (b.0, s ∙ b.1));
        }

    module _ (a : Apart k d places l) where
      used : places ≤ free k d l → (i : ℕ) → i < places → Used k d l i
      used full i h = free_past k d l i (omega arith)

      one_each : places ≤ free k d l → Placed places n o.owner
      one_each full =
          record {
            into = λ i h. (o.owned i h (used full i h)).0;
            apart = λ i j hi hj e.
                a i j hi hj (used full i hi) ((o.owned i hi (used full i hi)).1 ∙ ap owner_key e ∙ sym (o.owned j hj (used full j hj)).1);
          }

      -- fewer owners than places
      pub place_free : n < places → free k d l < places
      place_free few =
          by_test (ltb (free k d l) places) (λ t. ltb-true (free k d l) places t)
          (λ t. let m = no_more n places o.owner (one_each (ltb-false (free k d l) places t)) in absurd (omega arith))

      -- as many, but one of them has none
      module _ (m : ℕ) (h : m < n) (out : places ≤ place k d l (owner_key m)) where
        abbrev owners : ℕ → ℕ
        owners i = if ltb i places then o.owner i else m

        absent : (i : ℕ) → i < places → key_at k d l i ≡ owner_key m → ⊥
        absent i w e = let u = place_upto k d l (owner_key m) i e in omega arith

        and_one : places ≤ free k d l → Placed (suc places) n owners
        and_one full =
            let p = one_each full in
            record {
              into = λ i w. by_test (ltb i places) (λ t. rw t (p.into i (ltb-true i places t))) (λ t. rw t h);
              apart = λ i j wi wj e.
                  by_test (ltb i places)
                  (λ t. let li = ltb-true i places t in
                  by_test (ltb j places)
                  (λ u. p.apart i j li (ltb-true j places u) (rw (t, u) at e))
                  (λ u. absurd (absent i li ((o.owned i li (used full i li)).1 ∙ ap owner_key (rw (t, u) at e)))))
                  (λ t. let gi = ltb-false i places t in
                  by_test (ltb j places)
                  (λ u. let lj = ltb-true j places u in absurd (absent j lj ((o.owned j lj (used full j lj)).1 ∙ ap owner_key (sym (rw (t, u) at e)))))
                  (λ u. let gj = ltb-false j places u in omega arith));
            }

        pub slot_free : n ≤ places → free k d l < places
        slot_free few =
            by_test (ltb (free k d l) places) (λ t. ltb-true (free k d l) places t)
            (λ t. let m = no_more n (suc places) owners (and_one (ltb-false (free k d l) places t)) in absurd (omega arith))
