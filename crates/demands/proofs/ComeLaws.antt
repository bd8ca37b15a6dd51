-- Which segments have come, by the list of arrivals alone. Each sets the bit of its own segment, so the bits name those that came; an arrival of one speech sets
-- no bit of another's, so in turn the same come. And what holds of each arrival holds of each in turn. Assumes nothing.
--   each_first, each_at   what holds of each of a list holds of each of its beginning, and of one in it
--   come_from_law         the bits name the segments that came
--   come_in_turn          in turn the same segments come
--   each_turn             what holds of each arrival holds of each in turn
use mathlib.Core.Bool.{Bool, true, false, ◌||◌, or-true, or-false, or_assoc}
use mathlib.Core.List.{List, [], ◌∷◌, ◌++◌}
use mathlib.Core.Path.{◌≡◌, refl, sym, ap, ◌∙◌, subst}
use Prim.Native.Nat.{ℕ, zero, suc, ◌≤◌, ◌<◌}
use native.Mathlib.Omega.{arith}
use borrow.Author.Tests.{ne_eqb, eqb-true, eqb-false}
use lib.Dec.{eqb}
use Rattle.common.specs.Bits.{has_bit, with_bit}
use Rattle.common.specs.Search.{picked}
use Rattle.common.proofs.BitLaws.{has_with_own, has_with_other}
use Rattle.common.proofs.Tests.{by_test}
use Rattle.demands.specs.Interleaved.{Event, Segment, Foreign, Ask, Own, Arrival, come_with, come_from, is_segment, among, Each, of_speech, arrivals_of, in_turn}

-- ---- what holds of each of a list
module _ {A : Type 0} (P : A → Type 0) where
  pub each_first : (a b : List A) → Each P (a ++ b) → Each P a
  each_first [] b e = tt {0}
  each_first (x ∷ a) b e = (e.0, each_first a b e.1)

  pub each_at : (a : List A) (x : A) (b : List A) → Each P (a ++ x ∷ b) → P x
  each_at [] x b e = e.0
  each_at (y ∷ a) x b e = each_at a x b e.1

  each_join : (a b : List A) → Each P a → Each P b → Each P (a ++ b)
  each_join [] b e f = f
  each_join (x ∷ a) b e f = (e.0, each_join a b e.1 f)

  each_picked : (p : A → Bool) (l : List A) → Each P l → Each P (picked p l)
  unfolding picked
  each_picked p [] e = tt {0}
  each_picked p (x ∷ l) e = by_test (p x) (λ t. rw t (e.0, each_picked p l e.1)) (λ t. rw t (each_picked p l e.1))

-- ---- the bits name the segments that came
come_with_law : (k i bits : ℕ) (e : Event) → i < 32 → has_bit (come_with k bits e) i ≡ has_bit bits i || is_segment k i e
come_with_law k i bits (Segment j n seq ttl) h =
    by_test (eqb j k)
    (λ t. rw t
    (by_test (eqb n i)
    (λ u. let e = eqb-true n i u in rw (u, or-true (has_bit bits i)) (subst (λ (x : ℕ). has_bit (with_bit bits x) i ≡ true) (sym e) (has_with_own bits i h)))
    (λ u. rw (u, or-false (has_bit bits i)) (has_with_other bits n i (λ e. eqb-false n i u (sym e))))))
    (λ t. rw (t, or-false (has_bit bits i)) refl)
come_with_law k i bits (Foreign pdu) h = sym (or-false (has_bit bits i))
come_with_law k i bits (Ask net src) h = sym (or-false (has_bit bits i))
come_with_law k i bits (Own c) h = sym (or-false (has_bit bits i))

pub come_from_law : (k i bits : ℕ) (l : List Arrival) → i < 32 → has_bit (come_from k bits l) i ≡ has_bit bits i || among k i l
come_from_law k i bits [] h = sym (or-false (has_bit bits i))
come_from_law k i bits (a ∷ l) h =
    come_from_law k i (come_with k bits a.event) l h ∙ ap (λ (b : Bool). b || among k i l) (come_with_law k i bits a.event h)
    ∙ or_assoc (has_bit bits i) (is_segment k i a.event) (among k i l)

-- ---- in turn: the same segments come
module _ (k : ℕ) where
  come_append : (bits : ℕ) (a b : List Arrival) → come_from k bits (a ++ b) ≡ come_from k (come_from k bits a) b
  come_append bits [] b = refl
  come_append bits (x ∷ a) b = come_append (come_with k bits x.event) a b

  -- an arrival of another speech, or of none, brings nothing of speech k
  come_other : (j bits : ℕ) (e : Event) → (j ≡ k → ⊥) → of_speech j e ≡ true → come_with k bits e ≡ bits
  come_other j bits (Segment m i seq ttl) n t = rw (ne_eqb m k (λ e. n (sym (eqb-true m j t) ∙ e))) refl
  come_other j bits (Foreign pdu) n t = refl
  come_other j bits (Ask net src) n t = refl
  come_other j bits (Own c) n t = refl

  come_none : (bits : ℕ) (e : Event) → of_speech k e ≡ false → come_with k bits e ≡ bits
  come_none bits (Segment m i seq ttl) t = rw t refl
  come_none bits (Foreign pdu) t = refl
  come_none bits (Ask net src) t = refl
  come_none bits (Own c) t = refl

  come_of_other : (j bits : ℕ) (l : List Arrival) → (j ≡ k → ⊥) → come_from k bits (arrivals_of j l) ≡ bits
  unfolding picked
  come_of_other j bits [] n = refl
  come_of_other j bits (a ∷ l) n =
      by_test (of_speech j a.event)
      (λ t. rw t (ap (λ (b : ℕ). come_from k b (arrivals_of j l)) (come_other j bits a.event n t) ∙ come_of_other j bits l n))
      (λ t. rw t (come_of_other j bits l n))

  come_of_own : (bits : ℕ) (l : List Arrival) → come_from k bits (arrivals_of k l) ≡ come_from k bits l
  unfolding picked
  come_of_own bits [] = refl
  come_of_own bits (a ∷ l) =
      by_test (of_speech k a.event)
      (λ t. rw t (come_of_own (come_with k bits a.event) l))
      (λ t. rw (t, come_none bits a.event t) (come_of_own bits l))

  come_before : (bits n : ℕ) (l : List Arrival) → n ≤ k → come_from k bits (in_turn n l) ≡ bits
  come_before bits zero l h = refl
  come_before bits (suc n) l h =
      come_append bits (in_turn n l) (arrivals_of n l)
      ∙ ap (λ (b : ℕ). come_from k b (arrivals_of n l)) (come_before bits n l (omega arith))
      ∙ come_of_other n bits l (λ e. omega arith)

  pub come_in_turn : (bits n : ℕ) (l : List Arrival) → k < n → come_from k bits (in_turn n l) ≡ come_from k bits l
  come_in_turn bits zero l h = absurd (omega arith)
  come_in_turn bits (suc n) l h =
      come_append bits (in_turn n l) (arrivals_of n l)
      ∙ by_test (eqb n k)
      (λ t.
      let e = eqb-true n k t in
      ap (λ (b : ℕ). come_from k b (arrivals_of n l)) (come_before bits n l (omega arith)) ∙ ap (λ (j : ℕ). come_from k bits (arrivals_of j l)) e ∙ come_of_own bits l)
      (λ t.
      let d = eqb-false n k t in
      ap (λ (b : ℕ). come_from k b (arrivals_of n l)) (come_in_turn bits n l (omega arith)) ∙ come_of_other n (come_from k bits l) l d)

pub each_turn : (P : Arrival → Type 0) (n : ℕ) (l : List Arrival) → Each P l → Each P (in_turn n l)
each_turn P zero l e = tt {0}
each_turn P (suc n) l e = each_join P (in_turn n l) (arrivals_of n l) (each_turn P n l e) (each_picked P (λ a. of_speech n a.event) l e)
