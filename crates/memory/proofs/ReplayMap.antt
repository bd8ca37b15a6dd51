-- The replay list is a map from sources: what is inserted is looked up, and every other source's entry stays. It stays as it is kept; and where fewer sources than there are entries have
-- one, there is room for any. Assumes nothing.
--   look_up_.., has_room_..   what is found, and that there is room
--   kept_..                   the list stays as it is kept
--   each_..                   what holds of every entry's source
--   Listed, listed_or_none    which sources have an entry
--   room_left                 and that there is room
use mathlib.Core.Bool.{true, false, true≢false}
use mathlib.Core.List.{List}
use mathlib.Core.Logic.{◌⊎◌, inl, inr, ⊎_elim}
use mathlib.Core.Path.{◌≡◌, refl, sym, ap, ◌∙◌, subst}
use Prim.Native.Nat.{ℕ, ◌-◌, ◌≤◌, ◌<◌}
use native.Mathlib.Omega.{arith}
use borrow.Author.Tests.{eqb-true, eqb-false, ltb-true, ltb-false}
use lib.Dec.{eqb, ltb}
use lib.ListN.{length, get_or, length-replicate, get_or-eq_default}
use Rattle.common.specs.Lists.{tab}
use Rattle.common.proofs.Lists.{length_tab, get_d_tab}
use Rattle.common.proofs.Tests.{by_test, by_choice}
use Rattle.memory.specs.declared.pair.Pair.{Pair}
use Rattle.memory.specs.declared.replay.Entry.{Entry}
use Rattle.memory.specs.declared.replay.Last.{Last}
use Rattle.memory.specs.Pair.{newer, greater}
use Rattle.memory.specs.Replay.{replay_entries, no_entry, no_entries, entry_place, standing, is_listed, look_up, last_free, has_room, shifted_at, inserted}
use Rattle.memory.specs.Replay.{stale, raised, accepted_by, accepted, handed_up_by, handed_up, ReplayKept}
use Rattle.memory.proofs.Keyed as keyed
use Rattle.memory.proofs.ReplayInsert.{goes, stands_new}
use Rattle.memory.proofs.ReplayLaws.{room_own, room_last, stands_within, insert_full}
use Rattle.memory.proofs.ReplayOrder.{entries_keyed, source_at, sources_apart, last_free_law, last_free_by, look_up_there, look_up_not_there, looked_up, look_up_of}
use Rattle.memory.proofs.Room.{Owned, place_free}

-- no place has it: it has none
pub look_up_nowhere : (l : List Entry) (a : ℕ) → ((i : ℕ) → source_at l i ≡ a → ⊥) → look_up l a ≡ no_entry
look_up_nowhere l a none = look_up_not_there l a (none (entry_place l a))

-- source 0 has none
look_up_zero : (l : List Entry) → (look_up l 0).src ≡ 0
look_up_zero l = ⊎_elim (λ e. ap (λ (x : Entry). x.src) (look_up_there l 0 e) ∙ e) (ap (λ (x : Entry). x.src)) (looked_up l 0)

-- ---- a list with no entry
none_at : (i : ℕ) → get_or no_entries i no_entry ≡ no_entry
none_at = keyed.each_replicate (λ (e : Entry). e ≡ no_entry) no_entry replay_entries no_entry refl refl

pub kept_none : ReplayKept no_entries
kept_none =
    record { places = length-replicate replay_entries no_entry; ascends = λ i j h k z. absurd (z (ap (λ (e : Entry). e.src) (none_at j))) }

pub look_up_none : (a : ℕ) → look_up no_entries a ≡ no_entry
look_up_none a = ⊎_elim (λ e. look_up_there no_entries a e ∙ none_at (entry_place no_entries a)) (λ e. e) (looked_up no_entries a)

-- the last place is room for any source
pub has_room_free : (l : List Entry) (src : ℕ) → last_free l ≡ true → has_room l src ≡ true
unfolding has_room
has_room_free l src f = by_test (is_listed l src) (λ t. rw t refl) (λ t. rw (t, f) refl)

pub has_room_none : (src : ℕ) → has_room no_entries src ≡ true
has_room_none src = has_room_free no_entries src (last_free_law no_entries kept_none.ascends 0 (omega arith) (ap (λ (e : Entry). e.src) (none_at 0)))

-- ---- an entry is inserted
module _ (l : List Entry) (k : ReplayKept l) (e : Entry) where
  pub kept_inserted : ReplayKept (inserted l e)
  kept_inserted = (goes l k e).kept

  pub look_up_inserted_own : (e.src ≡ 0 → ⊥) → has_room l e.src ≡ true → look_up (inserted l e) e.src ≡ e
  look_up_inserted_own some room =
      let s = stands_new l k e some room in
      let at = ap (λ (x : Entry). x.src) s.2 in
      ap (look_up (inserted l e)) (sym at) ∙ look_up_of (inserted l e) kept_inserted.ascends s.0 s.1 (λ z. some (sym at ∙ z)) ∙ s.2

  module _ (a : ℕ) (n : a ≡ e.src → ⊥) (z : a ≡ 0 → ⊥) where
    abbrev b : List Entry
    b = inserted l e

    -- it stood, so it stands
    other_stood : source_at l (entry_place l a) ≡ a → look_up b a ≡ look_up l a
    other_stood q =
        let i = entry_place l a in
        let w = stands_within l i (get_or l i no_entry) refl (λ y. z (sym q ∙ y)) in
        let m = (goes l k e).moved i (rw (← k.places) w) (λ y. z (sym q ∙ y)) (λ y. n (sym q ∙ y)) in
        let at = ap (λ (x : Entry). x.src) m.2 ∙ q in
        ap (look_up b) (sym at) ∙ look_up_of b kept_inserted.ascends m.0 m.1 (λ y. z (sym at ∙ y)) ∙ m.2 ∙ sym (look_up_there l a q)

    -- it stands, so it stood
    other_stands : source_at b (entry_place b a) ≡ a → look_up b a ≡ look_up l a
    other_stands q =
        let j = entry_place b a in
        let w = stands_within b j (get_or b j no_entry) refl (λ y. z (sym q ∙ y)) in
        ⊎_elim (λ y. absurd (n (sym q ∙ ap (λ (x : Entry). x.src) y)))
        (λ c.
        let at = sym (ap (λ (x : Entry). x.src) c.2) ∙ q in
        look_up_there b a q ∙ c.2 ∙ sym (look_up_of l k.ascends c.0 c.1 (λ y. z (sym at ∙ y))) ∙ ap (look_up l) at)
        ((goes l k e).came j (rw (← kept_inserted.places) w))

    pub look_up_inserted_other : look_up b a ≡ look_up l a
    look_up_inserted_other = ⊎_elim other_stood (λ none. ⊎_elim other_stands (λ gone. gone ∙ sym none) (looked_up b a)) (looked_up l a)

-- where there is no room it stays
pub inserted_no_room : (l : List Entry) (e : Entry) → (e.src ≡ 0 → ⊥) → has_room l e.src ≡ false → inserted l e ≡ l
inserted_no_room l e some t =
    let new : (source_at l (entry_place l e.src) ≡ e.src → ⊥) = λ own. true≢false (room_own l e.src (standing l e.src) refl own ∙ t) in
    sym (insert_full l e some (standing l e.src) refl new (room_last l e.src (standing l e.src) refl new ∙ t))

-- ---- after a message was accepted, or handed up
-- a pair that the entry is not as new as is the greater
raised_new : (e : Entry) (pair : Pair) → stale e pair ≡ false → raised e pair ≡ pair
unfolding raised stale greater
raised_new e pair old = by_test (eqb e.src 0) (λ t. rw t refl) (λ t. by_test (newer pair e.pair) (λ u. rw (t, u) refl) (λ u. absurd (true≢false (rw (t, u) at old))))

module _ (l : List Entry) (k : ReplayKept l) (src : ℕ) where
  pub kept_accepted : (pair : Pair) → ReplayKept (accepted l src pair)
  unfolding accepted_by
  kept_accepted pair = kept_inserted l k _

  module _ (last : Last) where
    pub kept_handed_up : ReplayKept (handed_up l src last)
    unfolding handed_up_by
    kept_handed_up = kept_inserted l k _

    pub look_up_handed_up_other : (a : ℕ) → (a ≡ src → ⊥) → (a ≡ 0 → ⊥) → look_up (handed_up l src last) a ≡ look_up l a
    unfolding handed_up_by
    look_up_handed_up_other = look_up_inserted_other l k _

    -- of a source whose entry was not as new
    pub look_up_handed_up_new :
        (src ≡ 0 → ⊥) → has_room l src ≡ true → stale (look_up l src) last.auth ≡ false
        → look_up (handed_up l src last) src ≡ record { src = src; pair = last.auth; last = last }
    unfolding handed_up_by
    look_up_handed_up_new some room old =
        look_up_inserted_own l k _ some room
        ∙ ap (λ (p : Pair). record { src = src; pair = p; last = last }) (raised_new (look_up l src) last.auth old)

-- ---- which sources have an entry
-- what holds of each place's source, and of the one whose message was accepted or handed up
module _ (P : ℕ → Type 0) (l : List Entry) (each : (i : ℕ) → P (source_at l i)) where
  -- an empty place is behind the last
  each_none : P 0
  each_none = subst (λ (e : Entry). P e.src) (get_or-eq_default l no_entry {n = length l} (omega arith)) (each (length l))

  each_shifted : (p : ℕ) (e : Entry) → P e.src → (i : ℕ) → P (shifted_at l p e i).src
  unfolding shifted_at
  each_shifted p e new i =
      by_choice (λ (x : Entry). P x.src) (ltb i p) (λ _. each i)
      (λ _. by_choice (λ (x : Entry). P x.src) (eqb i p) (λ _. new) (λ _. each (i - 1)))

  each_tab : (f : ℕ → Entry) → ((i : ℕ) → P (f i).src) → (i : ℕ) → P (source_at (tab f replay_entries) i)
  each_tab f of i =
      by_test (ltb i replay_entries)
      (λ t. subst (λ (e : Entry). P e.src) (sym (get_d_tab f replay_entries i no_entry (ltb-true i replay_entries t))) (of i))
      (λ t.
      let past : length (tab f replay_entries) ≤ i = rw (length_tab f replay_entries) (ltb-false i replay_entries t) in
      subst (λ (e : Entry). P e.src) (sym (get_or-eq_default (tab f replay_entries) no_entry {n = i} past)) each_none)

  each_inserted : (e : Entry) → P e.src → (i : ℕ) → P (source_at (inserted l e) i)
  unfolding inserted
  each_inserted e new =
      let p = entry_place l e.src in
      by_choice (λ (b : List Entry). (i : ℕ) → P (source_at b i)) (eqb e.src 0) (λ _. each)
      (λ _. by_choice (λ (b : List Entry). (i : ℕ) → P (source_at b i)) (is_listed l e.src) (λ _. keyed.each_set (λ (x : Entry). P x.src) no_entry l p e new each)
      (λ _. by_choice (λ (b : List Entry). (i : ℕ) → P (source_at b i)) (last_free l) (λ _. each_tab (shifted_at l p e) (each_shifted p e new)) (λ _. each)))

  pub each_accepted : (src : ℕ) (pair : Pair) → P src → (i : ℕ) → P (source_at (accepted l src pair) i)
  unfolding accepted_by
  each_accepted src pair = each_inserted _

  pub each_handed_up : (src : ℕ) (last : Last) → P src → (i : ℕ) → P (source_at (handed_up l src last) i)
  unfolding handed_up_by
  each_handed_up src last = each_inserted _

-- each is one of n
abbrev pub Listed : ℕ → (ℕ → ℕ) → List Entry → Type 0
Listed n source l = (a : ℕ) → ((look_up l a).src ≡ 0 → ⊥) → (m : ℕ) × (m < n) × (a ≡ source m)

module _ (n : ℕ) (source : ℕ → ℕ) where
  pub listed_none : Listed n source no_entries
  listed_none a z = absurd (z (ap (λ (e : Entry). e.src) (look_up_none a)))

  module _ (l : List Entry) (of : Listed n source l) where
    -- a source has an entry and is one of them, or it has none
    pub listed_or_none : (a : ℕ) → (a ≡ 0 → ⊥) → ((m : ℕ) × (m < n) × (a ≡ source m)) ⊎ (look_up l a ≡ no_entry)
    listed_or_none a z =
        ⊎_elim (λ e. inl (of a (λ q. z (sym e ∙ sym (ap (λ (x : Entry). x.src) (look_up_there l a e)) ∙ q)))) inr (looked_up l a)

    module _ (k : ReplayKept l) where
      pub listed_handed_up : (src : ℕ) (last : Last) (m : ℕ) → m < n → src ≡ source m → Listed n source (handed_up l src last)
      listed_handed_up src last m h e a z =
          by_test (eqb a src) (λ t. (m, h, eqb-true a src t ∙ e))
          (λ t.
          let some : (a ≡ 0 → ⊥) = λ q. z (ap (λ (b : ℕ). (look_up (handed_up l src last) b).src) q ∙ look_up_zero _) in
          of a (λ q. z (ap (λ (x : Entry). x.src) (look_up_handed_up_other l k src last a (eqb-false a src t) some) ∙ q)))

      -- what stands at a place is one of them
      whose : (i : ℕ) → (m : ℕ) × (i < replay_entries → eqb (source_at l i) 0 ≡ false → (m < n) × (source_at l i ≡ source m))
      whose i =
          let a = source_at l i in
          by_test (ltb i replay_entries)
          (λ t. by_test (eqb a 0) (λ u. (0, λ h z. absurd (true≢false (sym u ∙ z))))
          (λ u.
          let some = eqb-false a 0 u in
          let m = of a (λ q. some (sym (ap (λ (x : Entry). x.src) (look_up_of l k.ascends i (ltb-true i replay_entries t) some)) ∙ q)) in
          (m.0, λ h z. (m.1, m.2))))
          (λ t. (0, λ h z. let past = ltb-false i replay_entries t in absurd (omega arith)))

      listed_owned : Owned entries_keyed no_entry replay_entries n source l
      listed_owned = record { owner = λ i. (whose i).0; owned = λ i. (whose i).1 }

      -- fewer sources than entries
      pub room_left : n < replay_entries → (src : ℕ) → has_room l src ≡ true
      room_left few src =
          let free = place_free entries_keyed no_entry replay_entries n source l listed_owned k.places (sources_apart l k.ascends) few in
          has_room_free l src (last_free_by l k.ascends k.places free)
