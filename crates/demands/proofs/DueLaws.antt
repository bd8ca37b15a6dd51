-- What is due of one speech along a list of arrivals: its message where the last missing segment comes, nothing before that and nothing behind, since a complete
-- speech stays so. And of all that is due at an event, what has the speech's source is due of the speech, since no other speech has that source. Assumes nothing.
--   due_with     what is due of speech k at an event, where these segments have come
--   due_behind   and along a list of arrivals
--   once_due     its message is due once, where the list completes it
--   picked_due   it is what has its source among all that is due
use mathlib.Core.Bool.{Bool, false}
use mathlib.Core.List.{List, [], ◌∷◌, ◌++◌}
use mathlib.Core.Logic.{◌⊎◌, inl, inr, ⊎_elim}
use mathlib.Core.Path.{◌≡◌, refl, sym, ◌∙◌, subst}
use Prim.Native.Nat.{ℕ, ◌≤◌, ◌<◌}
use native.Mathlib.Omega.{arith}
use borrow.Author.Tests.{eq-eqb, ne_eqb, eqb-true, eqb-false}
use lib.Dec.{eqb}
use lib.ListN.{length}
use Rattle.std.specs.Prelude.{if◌then◌else◌}
use Rattle.common.specs.Bits.{has_bit, with_bit, all_bits}
use Rattle.common.specs.Search.{picked}
use Rattle.common.proofs.BitLaws.{has_all, with_of_set}
use Rattle.common.proofs.Tests.{by_test}
use Rattle.node.specs.declared.addresses.Node.{Node}
use Rattle.demands.specs.Interleaved.{Event, Segment, Foreign, Ask, Own, Arrival, speech_at, come_with, come_from, is_last_missing, Spent, Comes, Arrives, Each, source_of}
use Rattle.demands.specs.Speech.{Words, Access, Control, Speech, last_of, Speakable, Handed, hand_up_as, hand_up}
use Rattle.demands.proofs.ArrivalLaws.{due_of}
use Rattle.demands.proofs.SceneLaws.{speaker_of}
use Rattle.demands.proofs.SpeechCut.{last_low}

module _ (node : Node) (speeches : List Speech) (k : ℕ) where
  abbrev s : Speech
  s = speech_at speeches k

  abbrev full : ℕ
  full = all_bits (last_of node s)

  -- what is due at an event, where these segments have come
  pub due_with : ℕ → Event → List Handed
  due_with bits (Segment j i seq ttl) = if eqb j k then (if is_last_missing bits i (last_of node s) then hand_up node s ∷ [] else []) else []
  due_with bits (Foreign pdu) = []
  due_with bits (Ask net src) = []
  due_with bits (Own d) = []

  unfoldable pub due_behind : ℕ → List Arrival → List Handed
  due_behind bits [] = []
  due_behind bits (a ∷ l) = due_with bits a.event ++ due_behind (come_with k bits a.event) l

  -- ---- it is due once
  -- not yet complete: it becomes so, or it is not handed up
  abbrev Turns : ℕ → Event → Type 0
  Turns bits e = ((come_with k bits e ≡ full) × (due_with bits e ≡ hand_up node s ∷ [])) ⊎ ((come_with k bits e ≡ full → ⊥) × (due_with bits e ≡ []))

  turns_by : (bits : ℕ) → (bits ≡ full → ⊥) → (e : Event) → Turns bits e
  unfolding due_with
  turns_by bits n (Segment j i seq ttl) =
      by_test (eqb j k)
      (λ t. rw t
      (by_test (eqb (with_bit bits i) full)
      (λ u.
      let e = eqb-true (with_bit bits i) full u in
      by_test (has_bit bits i)
      (λ v. absurd (n (sym (with_of_set bits i v) ∙ e)))
      (λ v. inl (e, rw (u, v) refl)))
      (λ u. inr (eqb-false (with_bit bits i) full u, by_test (has_bit bits i) (λ v. rw (u, v) refl) (λ v. rw (u, v) refl)))))
      (λ t. rw t (inr (n, refl)))
  turns_by bits n (Foreign pdu) = inr (n, refl)
  turns_by bits n (Ask net src) = inr (n, refl)
  turns_by bits n (Own d) = inr (n, refl)

  module _ (spent : Spent) (hk : k < length speeches) (speak : (j : ℕ) → j < length speeches → Speakable node (speech_at speeches j)) where
    -- complete, and so for good
    full_stays : (e : Event) → Comes node speeches spent e → (come_with k full e ≡ full) × (due_with full e ≡ [])
    unfolding due_with
    full_stays (Segment j i seq ttl) c =
        by_test (eqb j k)
        (λ t.
        let there = subst (λ (x : ℕ). i ≤ last_of node (speech_at speeches x)) (eqb-true j k t) c.segment_there in
        let low = last_low node s (speak k hk) in
        let has = has_all (last_of node s) i there (omega arith) in
        rw (t, with_of_set full i has, has) (refl, refl))
        (λ t. rw t (refl, refl))
    full_stays (Foreign pdu) c = (refl, refl)
    full_stays (Ask net src) c = (refl, refl)
    full_stays (Own d) c = (refl, refl)

    none_more : (l : List Arrival) → Each (Arrives node speeches spent) l → due_behind full l ≡ []
    unfolding due_behind
    none_more [] e = refl
    none_more (a ∷ l) e =
        let f = full_stays a.event e.0.comes in
        rw (f.0, f.1) (none_more l e.1)

    pub once_due : (bits : ℕ) → (bits ≡ full → ⊥) → (l : List Arrival) → Each (Arrives node speeches spent) l → come_from k bits l ≡ full → due_behind bits l ≡ hand_up node s ∷ []
    unfolding due_behind
    once_due bits n [] e c = absurd (n c)
    once_due bits n (a ∷ l) e c =
        ⊎_elim
        (λ f. rw (f.0, f.1, none_more l e.1) refl)
        (λ f. rw f.1 (once_due (come_with k bits a.event) f.0 l e.1 c))
        (turns_by bits n a.event)

  -- ---- by its source
  source_is : (o : Speech) (ws : Words) → source_of (hand_up_as node o ws).answer ≡ o.src
  source_is o (Access key szmic payload) = refl
  source_is o (Control code parameters) = refl

  abbrev own : Handed → Bool
  own m = eqb (source_of m.answer) s.src

  picked_one : (o : Speech) → picked own (hand_up node o ∷ []) ≡ (if eqb o.src s.src then hand_up node o ∷ [] else [])
  unfolding picked
  picked_one o = rw (source_is o o.words) refl

  module _ (spent : Spent) (hk : k < length speeches)
      (differ : (j k : ℕ) → j < length speeches → k < length speeches → speaker_of speeches j ≡ speaker_of speeches k → j ≡ k) where
    pub picked_due : (filled : ℕ → ℕ) (e : Event) → Comes node speeches spent e → picked own (due_of node speeches spent filled e) ≡ due_with (filled k) e
    unfolding picked due_with
    picked_due filled (Segment j i seq ttl) c =
        let o = speech_at speeches j in
        by_test (eqb j k)
        (λ t.
        let e = eqb-true j k t in
        by_test (is_last_missing (filled k) i (last_of node s))
        (λ u. rw (e, u) (picked_one s ∙ rw (eq-eqb s.src s.src refl, eq-eqb k k refl) refl))
        (λ u. rw (e, u, eq-eqb k k refl) refl))
        (λ t.
        let n : eqb o.src s.src ≡ false = ne_eqb o.src s.src (λ q. eqb-false j k t (differ j k c.one_of hk q)) in
        by_test (is_last_missing (filled j) i (last_of node o)) (λ u. rw (u, t) (picked_one o ∙ rw n refl)) (λ u. rw (u, t) refl))
    picked_due filled (Foreign pdu) c = refl
    picked_due filled (Ask net src) c = refl
    picked_due filled (Own d) c = refl
