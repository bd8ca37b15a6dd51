-- What each hearing hands up adds up to one message. Each brings its segment, and none past SegN; so a message that is not complete becomes so at one hearing, which hands it up, and stays so,
-- where none hands it up again. Where each segment comes, it becomes complete. Assumes nothing.
--   Within       what is heard is no segment past SegN
--   read_once    where each segment comes, all that was handed up is the message
use mathlib.Core.Bool.{Bool, true, false, ◌||◌, or-true, or-false, or_assoc, false≢true}
use mathlib.Core.List.{List, [], ◌∷◌, ◌++◌, map}
use mathlib.Core.Logic.{◌⊎◌, inl, inr, ⊎_elim}
use mathlib.Core.Path.{◌≡◌, refl, sym, ap, ap₂, ◌∙◌, subst}
use Prim.Native.Nat.{ℕ, ◌^◌, ◌≤◌, ◌<◌}
use native.Mathlib.Omega.{arith}
use borrow.Author.Tests.{ne_eqb, eqb-true, eqb-false, leb-true, leb-false}
use lib.Dec.{eqb, leb}
use lib.Pow.{pow_pos}
use Rattle.std.specs.Prelude.{if◌then◌else◌}
use Rattle.common.specs.Bits.{has_bit, with_bit, all_bits}
use Rattle.common.proofs.BitLaws.{has_none, with_of_set, has_with_own, has_with_other, with_bound, has_all, all_bound, has_all_above, bits_ext}
use Rattle.common.proofs.Tests.{by_test}
use Rattle.node.specs.declared.addresses.Node.{Node}
use Rattle.receiver.specs.declared.state.Receiver.{Receiver}
use Rattle.demands.specs.Call.{Call, Outcome, step, run}
use Rattle.demands.specs.Interleaved.{is_last_missing, Each, handed}
use Rattle.demands.specs.ReadBack.{Piece, Incoming, Made, Relayed, Unopened, Hearing, piece_at, hear_call, came_with, is_piece, brings, ReadsAs, ReadsEach, all_handed}
use Rattle.demands.specs.Speech.{Speech, Handed, hand_up}

-- it is no segment past SegN
abbrev pub Within : List Piece → ℕ → Incoming → Type 0
Within ps seg_n (Made i) = (piece_at ps i).segment ≤ seg_n
Within ps seg_n (Relayed i ttl) = (piece_at ps i).segment ≤ seg_n
Within ps seg_n (Unopened pdu) = Unit {0}

abbrev pub AllWithin : List Piece → ℕ → List Hearing → Type 0
AllWithin ps seg_n l = Each (λ (h : Hearing). Within ps seg_n h.what) l

module _ (node : Node) (s : Speech) (ps : List Piece) (seg_n : ℕ) (low : seg_n < 32) where
  abbrev full : ℕ
  full = all_bits seg_n

  abbrev calls : List Hearing → List Call
  calls l = map (hear_call node s ps) l

  -- ---- one hearing
  -- what is due at segment i, and at what is heard
  abbrev due_at : ℕ → ℕ → List Handed
  due_at bits i = if is_last_missing bits i seg_n then hand_up node s ∷ [] else []

  abbrev due_as : ℕ → Incoming → List Handed
  due_as bits (Made i) = due_at bits (piece_at ps i).segment
  due_as bits (Relayed i ttl) = due_at bits (piece_at ps i).segment
  due_as bits (Unopened pdu) = []

  due_is : (bits : ℕ) (w : Incoming) (o : Outcome) → ReadsAs node s ps seg_n bits w o → handed o ≡ due_as bits w
  due_is bits (Made i) o x = x.hands
  due_is bits (Relayed i ttl) o x = x.hands
  due_is bits (Unopened pdu) o x = x

  -- not yet complete: it becomes so, or it is not handed up
  abbrev Turns : ℕ → List Handed → Type 0
  Turns more due = ((more ≡ full) × (due ≡ hand_up node s ∷ [])) ⊎ ((more ≡ full → ⊥) × (due ≡ []))

  turns_at : (bits i : ℕ) → (bits ≡ full → ⊥) → Turns (with_bit bits i) (due_at bits i)
  turns_at bits i n =
      by_test (eqb (with_bit bits i) full)
      (λ u.
      let e = eqb-true (with_bit bits i) full u in
      by_test (has_bit bits i)
      (λ v. absurd (n (sym (with_of_set bits i v) ∙ e)))
      (λ v. inl (e, rw (u, v) refl)))
      (λ u. inr (eqb-false (with_bit bits i) full u, by_test (has_bit bits i) (λ v. rw (u, v) refl) (λ v. rw (u, v) refl)))

  turns_as : (bits : ℕ) (w : Incoming) → (bits ≡ full → ⊥) → Turns (came_with ps bits w) (due_as bits w)
  turns_as bits (Made i) n = turns_at bits (piece_at ps i).segment n
  turns_as bits (Relayed i ttl) n = turns_at bits (piece_at ps i).segment n
  turns_as bits (Unopened pdu) n = inr (n, refl)

  -- complete, and so for good
  abbrev Stays : ℕ → List Handed → Type 0
  Stays more due = (more ≡ full) × (due ≡ [])

  stays_at : (i : ℕ) → i ≤ seg_n → Stays (with_bit full i) (due_at full i)
  stays_at i there = let has = has_all seg_n i there (omega arith) in rw (with_of_set full i has, has) (refl, refl)

  stays_as : (w : Incoming) → Within ps seg_n w → Stays (came_with ps full w) (due_as full w)
  stays_as (Made i) v = stays_at (piece_at ps i).segment v
  stays_as (Relayed i ttl) v = stays_at (piece_at ps i).segment v
  stays_as (Unopened pdu) v = (refl, refl)

  -- ---- a list of them
  none_more : (l : List Hearing) (r : Receiver) → AllWithin ps seg_n l → ReadsEach node s ps seg_n r full l → all_handed (run r (calls l)) ≡ []
  none_more [] r v e = refl
  none_more (h ∷ l) r v e =
      let q = (step r (hear_call node s ps h)).receiver in
      let f = stays_as h.what v.0 in
      let rest = none_more l q v.1 (subst (λ (b : ℕ). ReadsEach node s ps seg_n q b l) f.0 e.1) in
      ap₂ (λ (a b : List Handed). a ++ b) (due_is full h.what _ e.0 ∙ f.1) rest

  -- the segments that have come behind it
  abbrev came_from : ℕ → List Hearing → ℕ
  came_from bits [] = bits
  came_from bits (h ∷ l) = came_from (came_with ps bits h.what) l

  once_more :
      (l : List Hearing) (r : Receiver) (bits : ℕ) → (bits ≡ full → ⊥) → AllWithin ps seg_n l → ReadsEach node s ps seg_n r bits l → came_from bits l ≡ full
      → all_handed (run r (calls l)) ≡ hand_up node s ∷ []
  once_more [] r bits n v e c = absurd (n c)
  once_more (h ∷ l) r bits n v e c =
      let q = (step r (hear_call node s ps h)).receiver in
      let due = due_is bits h.what _ e.0 in
      ⊎_elim
      (λ f.
      let rest = none_more l q v.1 (subst (λ (b : ℕ). ReadsEach node s ps seg_n q b l) f.0 e.1) in
      ap₂ (λ (a b : List Handed). a ++ b) (due ∙ f.1) rest)
      (λ f. ap₂ (λ (a b : List Handed). a ++ b) (due ∙ f.1) (once_more l q (came_with ps bits h.what) f.0 v.1 e.1 c))
      (turns_as bits h.what n)

  -- ---- where each segment comes, all bits are set
  with_is : (bits n i : ℕ) → i < 32 → has_bit (with_bit bits n) i ≡ has_bit bits i || eqb n i
  with_is bits n i h =
      by_test (eqb n i)
      (λ u. let e = eqb-true n i u in rw (u, or-true (has_bit bits i)) (subst (λ (x : ℕ). has_bit (with_bit bits x) i ≡ true) (sym e) (has_with_own bits i h)))
      (λ u. rw (u, or-false (has_bit bits i)) (has_with_other bits n i (λ e. eqb-false n i u (sym e))))

  came_is : (bits : ℕ) (w : Incoming) (i : ℕ) → i < 32 → has_bit (came_with ps bits w) i ≡ has_bit bits i || is_piece ps i w
  came_is bits (Made j) i h = with_is bits (piece_at ps j).segment i h
  came_is bits (Relayed j ttl) i h = with_is bits (piece_at ps j).segment i h
  came_is bits (Unopened pdu) i h = sym (or-false (has_bit bits i))

  came_from_law : (bits : ℕ) (l : List Hearing) (i : ℕ) → i < 32 → has_bit (came_from bits l) i ≡ has_bit bits i || brings ps i l
  came_from_law bits [] i h = sym (or-false (has_bit bits i))
  came_from_law bits (x ∷ l) i h =
      came_from_law (came_with ps bits x.what) l i h ∙ ap (λ (b : Bool). b || brings ps i l) (came_is bits x.what i h)
      ∙ or_assoc (has_bit bits i) (is_piece ps i x.what) (brings ps i l)

  came_bound : (bits : ℕ) (w : Incoming) → bits < 2 ^ 32 → came_with ps bits w < 2 ^ 32
  came_bound bits (Made i) h = with_bound bits (piece_at ps i).segment h
  came_bound bits (Relayed i ttl) h = with_bound bits (piece_at ps i).segment h
  came_bound bits (Unopened pdu) h = h

  from_bound : (bits : ℕ) (l : List Hearing) → bits < 2 ^ 32 → came_from bits l < 2 ^ 32
  from_bound bits [] h = h
  from_bound bits (x ∷ l) h = from_bound (came_with ps bits x.what) l (came_bound bits x.what h)

  -- none past SegN
  past_piece : (w : Incoming) (i : ℕ) → seg_n < i → Within ps seg_n w → is_piece ps i w ≡ false
  past_piece (Made j) i h v = ne_eqb (piece_at ps j).segment i (λ e. omega arith)
  past_piece (Relayed j ttl) i h v = ne_eqb (piece_at ps j).segment i (λ e. omega arith)
  past_piece (Unopened pdu) i h v = refl

  past_brings : (l : List Hearing) (i : ℕ) → seg_n < i → AllWithin ps seg_n l → brings ps i l ≡ false
  past_brings [] i h v = refl
  past_brings (x ∷ l) i h v = rw (past_piece x.what i h v.0) (past_brings l i h v.1)

  all_come : (l : List Hearing) → AllWithin ps seg_n l → ((i : ℕ) → i ≤ seg_n → brings ps i l ≡ true) → came_from 0 l ≡ full
  all_come l v each =
      bits_ext 32 (came_from 0 l) full (from_bound 0 l (pow_pos 32)) (all_bound seg_n 32 (omega arith))
      (λ i h. came_from_law 0 l i h ∙ rw (has_none i)
      (by_test (leb i seg_n)
      (λ t. let b = leb-true i seg_n t in each i b ∙ sym (has_all seg_n i b h))
      (λ t. let b = leb-false i seg_n t in past_brings l i (omega arith) v ∙ sym (has_all_above seg_n i (omega arith)))))

  none_yet : 0 ≡ full → ⊥
  none_yet e = false≢true (sym (has_none 0) ∙ ap (λ (x : ℕ). has_bit x 0) e ∙ has_all seg_n 0 (omega arith) (omega arith))

  pub read_once :
      (l : List Hearing) (r : Receiver) → AllWithin ps seg_n l → ReadsEach node s ps seg_n r 0 l → ((i : ℕ) → i ≤ seg_n → brings ps i l ≡ true)
      → all_handed (run r (calls l)) ≡ hand_up node s ∷ []
  read_once l r v e each = once_more l r 0 none_yet v e (all_come l v each)
