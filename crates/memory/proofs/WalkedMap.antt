-- The old list is a map from sources, too: what is inserted is looked up, and every other source's entry stays, for an entry goes where its source's stood or none did. It stays as it is
-- kept: all its places are there, and no source stands twice. Assumes nothing.
--   WalkedKept                how it is kept
--   look_up_.., has_room_..   what is found, and that there is room
--   kept_..                   it stays as it is kept
use mathlib.Core.Bool.{true, false, true≢false}
use mathlib.Core.List.{List}
use mathlib.Core.Logic.{◌⊎◌, inl, inr}
use mathlib.Core.Path.{◌≡◌, refl, sym, ap, ◌∙◌}
use Prim.Native.Nat.{ℕ, ◌≤◌, ◌<◌}
use native.Mathlib.Omega.{arith}
use borrow.Author.Tests.{ne_eqb, lt-ltb, ltb-true, ltb-false}
use lib.Dec.{eqb, ltb}
use lib.ListN.{length, get_or, set, length-set, length-replicate, get_or-replicate, get_or-eq_default}
use lib.Seq.{get_or-set_same, set_out}
use Rattle.std.specs.Prelude.{if◌then◌else◌}
use Rattle.common.proofs.Tests.{by_test}
use Rattle.memory.specs.declared.replay.Entry.{Entry}
use Rattle.memory.specs.Replay.{replay_entries, no_entry, no_entries}
use Rattle.memory.specs.Walked.{entry_place, look_up, has_room, inserted}
use Rattle.memory.proofs.Keyed as keyed
use Rattle.memory.proofs.ReplayOrder.{entries_keyed, source_at}

pub record WalkedKept (l : List Entry) : Type 0 where
  pub places : length l ≡ replay_entries
  pub apart : keyed.Apart entries_keyed no_entry replay_entries l

-- what stands at a source's place is that source's, or nothing
stood_other : (l : List Entry) (src a : ℕ) → (a ≡ src → ⊥) → (a ≡ 0 → ⊥) → a ≡ (get_or l (entry_place l src) no_entry).src → ⊥
unfolding entry_place
stood_other l src a n z q =
    let k = entry_place l src in
    by_test (ltb k (length l))
    (λ t. n (q ∙ keyed.found_key entries_keyed no_entry l src (ltb-true k (length l) t)))
    (λ t. z (q ∙ ap (λ (e : Entry). e.src) (get_or-eq_default l no_entry {n = k} (ltb-false k (length l) t))))

-- where a source's entry goes
abbrev new_place : List Entry → ℕ → ℕ
new_place l src = if ltb (entry_place l src) replay_entries then entry_place l src else entry_place l 0

inserted_is : (l : List Entry) (e : Entry) → inserted l e ≡ set l (new_place l e.src) e
unfolding inserted
inserted_is l e = by_test (ltb (entry_place l e.src) replay_entries) (λ t. rw t) (λ t. rw t)

new_other : (l : List Entry) (src a : ℕ) → (a ≡ src → ⊥) → (a ≡ 0 → ⊥) → a ≡ (get_or l (new_place l src) no_entry).src → ⊥
new_other l src a n z =
    by_test (ltb (entry_place l src) replay_entries) (λ t. rw t (stood_other l src a n z)) (λ t. rw t (stood_other l 0 a z z))

module _ (l : List Entry) (src : ℕ) (room : has_room l src ≡ true) where
  new_within : new_place l src < replay_entries
  unfolding has_room
  new_within =
      by_test (ltb (entry_place l src) replay_entries) (λ t. rw t (ltb-true (entry_place l src) replay_entries t)) (λ t. rw t (ltb-true (entry_place l 0) replay_entries (rw t at room)))

  new_before : new_place l src ≤ entry_place l src
  new_before =
      let w = new_within in
      by_test (ltb (entry_place l src) replay_entries) (λ t. rw t (omega arith)) (λ t. let n = ltb-false (entry_place l src) replay_entries t in omega arith)

-- an empty place is room for any source
pub has_room_free : (l : List Entry) (src : ℕ) → keyed.free entries_keyed no_entry l < replay_entries → has_room l src ≡ true
unfolding has_room entry_place
has_room_free l src f = by_test (ltb (entry_place l src) replay_entries) (λ t. rw t refl) (λ t. rw (t, lt-ltb (entry_place l 0) replay_entries f) refl)

-- ---- a list with no entry
pub look_up_none : (a : ℕ) → look_up no_entries a ≡ no_entry
unfolding look_up
look_up_none a =
    let k = entry_place no_entries a in
    by_test (ltb k replay_entries)
    (λ t. get_or-replicate replay_entries k no_entry no_entry (ltb-true k replay_entries t))
    (λ t. get_or-eq_default no_entries no_entry {n = k} (rw (length-replicate replay_entries no_entry) (ltb-false k replay_entries t)))

-- ---- a list with an entry inserted
module _ (l : List Entry) (e : Entry) where
  pub length_inserted : length (inserted l e) ≡ length l
  length_inserted = rw (inserted_is l e) (length-set l (new_place l e.src) e)

  pub look_up_inserted_other : (a : ℕ) → (a ≡ e.src → ⊥) → (a ≡ 0 → ⊥) → look_up (inserted l e) a ≡ look_up l a
  unfolding look_up entry_place
  look_up_inserted_other a n z =
      rw (inserted_is l e)
      (keyed.found_set_other entries_keyed no_entry l (new_place l e.src) e a n (new_other l e.src a n z))

  module _ (long : length l ≡ replay_entries) (room : has_room l e.src ≡ true) where
    place_inserted : entry_place (inserted l e) e.src ≡ new_place l e.src
    unfolding entry_place
    place_inserted =
        let w = new_within l e.src room in
        rw (inserted_is l e)
        (keyed.place_set_own entries_keyed no_entry l (new_place l e.src) e (omega arith) (new_before l e.src room))

    pub look_up_inserted_own : look_up (inserted l e) e.src ≡ e
    unfolding look_up
    look_up_inserted_own =
        let w = new_within l e.src room in
        rw (place_inserted, inserted_is l e) (get_or-set_same l (new_place l e.src) e no_entry (omega arith))

-- ---- it stays as it is kept
pub kept_none : WalkedKept no_entries
kept_none =
    record {
      places = length-replicate replay_entries no_entry;
      apart = λ i j hi hj z e. absurd (true≢false (sym (ap (λ (e : Entry). eqb e.src 0) (get_or-replicate replay_entries i no_entry no_entry hi)) ∙ z));
    }

module _ (l : List Entry) (k : WalkedKept l) where
  pub kept_inserted : (e : Entry) → WalkedKept (inserted l e)
  unfolding entry_place
  kept_inserted e =
      record {
        places = length_inserted l e ∙ k.places;
        apart =
            rw (inserted_is l e)
            (keyed.apart_put entries_keyed no_entry l (new_place l e.src) e replay_entries k.places k.apart
            (λ h. rw (lt-ltb (entry_place l e.src) replay_entries h) refl));
      }

  -- where there is no room it stays
  pub inserted_full : (e : Entry) → has_room l e.src ≡ false → inserted l e ≡ l
  unfolding has_room
  inserted_full e t =
      let own = entry_place l e.src in
      by_test (ltb own replay_entries) (λ u. absurd (true≢false (rw u at t)))
      (λ u.
      let past = ltb-false (entry_place l 0) replay_entries (rw u at t) in
      let long = k.places in
      rw (inserted_is l e, u) (set_out l (entry_place l 0) e (omega arith)))

  -- what stands at a place is found again
  pub look_up_of : (i : ℕ) → i < replay_entries → (source_at l i ≡ 0 → ⊥) → look_up l (source_at l i) ≡ get_or l i no_entry
  unfolding look_up entry_place
  look_up_of i h some =
      let long = k.places in
      let a = source_at l i in
      let upto = keyed.place_upto entries_keyed no_entry l a i refl in
      let w : entry_place l a < replay_entries = omega arith in
      let same = keyed.found_key entries_keyed no_entry l a (omega arith) in
      ap (λ (j : ℕ). get_or l j no_entry) (sym (k.apart i (entry_place l a) h w (ne_eqb a 0 some) (sym same)))

  -- a source that is looked up stands in the list
  pub stands : (src : ℕ) → (src ≡ 0 → ⊥) → (look_up l src).src ≡ src → entry_place l src < replay_entries
  unfolding look_up
  stands src some e =
      let p = entry_place l src in
      by_test (ltb p replay_entries) (ltb-true p replay_entries)
      (λ t.
      let past = ltb-false p replay_entries t in
      let long = k.places in
      absurd (some (sym e ∙ ap (λ (x : Entry). x.src) (get_or-eq_default l no_entry {n = p} (omega arith)))))

  -- a source that stands in it is looked up
  pub found_source : (src : ℕ) → entry_place l src < replay_entries → (look_up l src).src ≡ src
  unfolding look_up entry_place
  found_source src h = let long = k.places in keyed.found_key entries_keyed no_entry l src (omega arith)

module _ (l : List Entry) (src : ℕ) where
  pub looked_at : {e : Entry} → look_up l src ≡ e → get_or l (entry_place l src) no_entry ≡ e
  unfolding look_up
  looked_at q = q

  -- room: the source stands in it, or a place is empty
  pub has_room_own : entry_place l src < replay_entries → has_room l src ≡ true
  unfolding has_room
  has_room_own h = rw (lt-ltb (entry_place l src) replay_entries h) refl

  pub by_room : has_room l src ≡ true → (entry_place l src < replay_entries) ⊎ (keyed.free entries_keyed no_entry l < replay_entries)
  unfolding has_room entry_place
  by_room t =
      by_test (ltb (entry_place l src) replay_entries) (λ u. inl (ltb-true (entry_place l src) replay_entries u))
      (λ u. inr (ltb-true (entry_place l 0) replay_entries (rw u at t)))
