-- The old list and the new one agree, whatever is inserted into both. Each is a map from sources, so what is looked up stays the same. Each source that stands in one stands in the other,
-- and no source twice: were one full and the other not, there were more sources than places for them. So there is room in both or in neither, and they hold the same entries. Assumes nothing.
--   Both           what holds of both after the same insertions
--   begins         so it is of two lists with no entry
--   agrees         their operations agree
--   same_entries   both hold the same entries
use mathlib.Core.Bool.{Bool, true, false≢true}
use mathlib.Core.List.{List}
use mathlib.Core.Logic.{⊎_elim}
use mathlib.Core.Path.{◌≡◌, refl, sym, ap, ◌∙◌}
use Prim.Native.Nat.{ℕ, ◌≤◌, ◌<◌}
use native.Mathlib.Omega.{arith}
use borrow.Author.Tests.{eqb-true, eqb-false, ltb-true, ltb-false}
use lib.Dec.{eqb, ltb}
use lib.ListN.{get_or}
use Rattle.common.proofs.Tests.{by_test}
use Rattle.memory.specs.declared.replay.Entry.{Entry}
use Rattle.memory.specs.Replay.{replay_entries, no_entry, no_entries, ascending, last_free, ReplayKept}
use Rattle.memory.specs.Replay as new
use Rattle.memory.specs.Walked.{walked, SameEntries}
use Rattle.memory.specs.Walked as old
use Rattle.memory.proofs.Agree.{Agree}
use Rattle.memory.proofs.Keyed as keyed
use Rattle.memory.proofs.ReplayLaws.{room_own, room_last, stands_within, insert_zero}
use Rattle.memory.proofs.ReplayMap as map
use Rattle.memory.proofs.ReplayOrder as order
use Rattle.memory.proofs.ReplayOrder.{entries_keyed, source_at}
use Rattle.memory.proofs.Room.{Owned, place_free, slot_free}
use Rattle.memory.proofs.WalkedMap.{WalkedKept}
use Rattle.memory.proofs.WalkedMap as walk

pub record Both (a b : List Entry) : Type 0 where
  pub looks : (src : ℕ) → (src ≡ 0 → ⊥) → old.look_up a src ≡ new.look_up b src
  pub old_kept : WalkedKept a
  pub new_kept : ReplayKept b

pub begins : Both no_entries no_entries
begins = record { looks = λ src z. walk.look_up_none src ∙ sym (map.look_up_none src); old_kept = walk.kept_none; new_kept = map.kept_none }

-- two tests of which each holds where the other does
same_test : (p q : Bool) → (p ≡ true → q ≡ true) → (q ≡ true → p ≡ true) → p ≡ q
same_test p q f g = by_test p (λ t. t ∙ sym (f t)) (λ t. by_test q (λ u. absurd (false≢true (sym t ∙ g u))) (λ u. t ∙ sym u))

module _ {a b : List Entry} (k : Both a b) where
  abbrev source : Entry → ℕ
  source e = e.src

  -- ---- what stands in one stands in the other
  module _ (src : ℕ) (some : src ≡ 0 → ⊥) where
    listed_new : (old.look_up a src).src ≡ src → source_at b (new.entry_place b src) ≡ src
    listed_new e =
        let found = ap source (sym (k.looks src some)) ∙ e in
        ⊎_elim (λ q. q) (λ none. absurd (some (sym found ∙ ap source none))) (order.looked_up b src)

    listed_old : source_at b (new.entry_place b src) ≡ src → (old.look_up a src).src ≡ src
    listed_old q = ap source (k.looks src some ∙ order.look_up_there b src q) ∙ q

  -- at a place of the old list
  new_place_law : (i : ℕ) → i < replay_entries → (source_at a i ≡ 0 → ⊥) → source_at b (new.entry_place b (source_at a i)) ≡ source_at a i
  new_place_law i h some = listed_new (source_at a i) some (ap source (walk.look_up_of a k.old_kept i h some))

  -- at a place of the new list
  old_place : (i : ℕ) → i < replay_entries → (source_at b i ≡ 0 → ⊥) → (old.look_up a (source_at b i)).src ≡ source_at b i
  old_place i h some = ap source (k.looks (source_at b i) some ∙ order.look_up_of b k.new_kept.ascends i h some)

  -- ---- room
  -- the sources of the old list stand at places of the new one before its last, where that is empty: so a place of the old one is empty
  old_owned : last_free b ≡ true → Owned entries_keyed no_entry replay_entries 31 (source_at b) a
  unfolding last_free
  old_owned t =
      record {
        owner = λ i. new.entry_place b (source_at a i);
        owned = λ i h u.
            let some = eqb-false (source_at a i) 0 u in
            let p = new.entry_place b (source_at a i) in
            let there = new_place_law i h some in
            let long = k.new_kept.places in
            let w = stands_within b p (get_or b p no_entry) refl (λ z. some (sym there ∙ z)) in
            let not_last : (p ≡ 31 → ⊥) = λ q. some (sym there ∙ ap (source_at b) q ∙ eqb-true (source_at b 31) 0 t) in
            (omega arith, sym there);
      }

  old_free : last_free b ≡ true → keyed.free entries_keyed no_entry a < replay_entries
  old_free t = place_free entries_keyed no_entry replay_entries 31 (source_at b) a (old_owned t) k.old_kept.places k.old_kept.apart (omega arith)

  -- the sources of the new list stand at places of the old one, of which one is empty: so the last of the new one is empty
  new_owned : Owned entries_keyed no_entry replay_entries replay_entries (source_at a) b
  unfolding old.look_up
  new_owned =
      record {
        owner = λ i. old.entry_place a (source_at b i);
        owned = λ i w u.
            let some = eqb-false (source_at b i) 0 u in
            let found = old_place i w some in
            (walk.stands a k.old_kept (source_at b i) some found, sym found);
      }

  new_free : keyed.free entries_keyed no_entry a < replay_entries → last_free b ≡ true
  new_free h =
      let long = k.old_kept.places in
      let empty = keyed.free entries_keyed no_entry a in
      let nothing = eqb-true (source_at a empty) 0 (keyed.free_none entries_keyed no_entry a (omega arith)) in
      let f = keyed.free entries_keyed no_entry b in
      order.last_free_by b k.new_kept.ascends k.new_kept.places
      (by_test (ltb f replay_entries) (ltb-true f replay_entries)
      (λ t.
      let none : replay_entries ≤ keyed.place entries_keyed no_entry b (source_at a empty) = rw nothing (ltb-false f replay_entries t) in
      slot_free entries_keyed no_entry replay_entries replay_entries (source_at a) b new_owned k.new_kept.places (order.sources_apart b k.new_kept.ascends)
      empty h none (omega arith)))

  module _ (src : ℕ) (some : src ≡ 0 → ⊥) where
    abbrev held : Entry
    held = get_or b (new.entry_place b src) no_entry

    room_new : old.has_room a src ≡ true → new.has_room b src ≡ true
    room_new t =
        ⊎_elim
        (λ h. sym (room_own b src (new.standing b src) refl (listed_new src some (walk.found_source a k.old_kept src h))))
        (λ h. map.has_room_free b src (new_free h)) (walk.by_room a src t)

    room_old : new.has_room b src ≡ true → old.has_room a src ≡ true
    room_old t =
        by_test (eqb held.src src)
        (λ u. walk.has_room_own a src (walk.stands a k.old_kept src some (listed_old src some (eqb-true held.src src u))))
        (λ u. walk.has_room_free a src (old_free (room_last b src (new.standing b src) refl (eqb-false held.src src u) ∙ t)))

    rooms : old.has_room a src ≡ new.has_room b src
    rooms = same_test (old.has_room a src) (new.has_room b src) room_new room_old

  -- ---- an entry is inserted into both
  module _ (e : Entry) (some : e.src ≡ 0 → ⊥) where
    looks_own : old.look_up (old.inserted a e) e.src ≡ new.look_up (new.inserted b e) e.src
    looks_own =
        by_test (new.has_room b e.src)
        (λ t.
        walk.look_up_inserted_own a e k.old_kept.places (rooms e.src some ∙ t) ∙ sym (map.look_up_inserted_own b k.new_kept e some t))
        (λ t.
        ap (λ (l : List Entry). old.look_up l e.src) (walk.inserted_full a k.old_kept e (rooms e.src some ∙ t))
        ∙ k.looks e.src some ∙ sym (ap (λ (l : List Entry). new.look_up l e.src) (map.inserted_no_room b e some t)))

    pub both_inserted : Both (old.inserted a e) (new.inserted b e)
    both_inserted =
        record {
          looks = λ src z.
              by_test (eqb src e.src) (λ t. rw (eqb-true src e.src t) looks_own)
              (λ t.
              let n = eqb-false src e.src t in
              walk.look_up_inserted_other a e src n z ∙ k.looks src z ∙ sym (map.look_up_inserted_other b k.new_kept e src n z));
          old_kept = walk.kept_inserted a k.old_kept e;
          new_kept = map.kept_inserted b k.new_kept e;
        }

  -- one without a source
  both_empty : (e f : Entry) → e.src ≡ 0 → f.src ≡ 0 → Both (old.inserted a e) (new.inserted b f)
  both_empty e f ze zf =
      record {
        looks = λ src z. walk.look_up_inserted_other a e src (λ q. z (q ∙ ze)) z ∙ k.looks src z ∙ ap (λ (l : List Entry). new.look_up l src) (insert_zero b f zf);
        old_kept = walk.kept_inserted a k.old_kept e;
        new_kept = map.kept_inserted b k.new_kept f;
      }

pub agrees : Agree walked ascending Both
agrees =
    record {
      looks = λ k. k.looks;
      rooms = rooms;
      inserts = both_inserted;
      empties = both_empty;
    }

-- ---- what stands in one is looked up in it, so it is looked up in the other, and stands there
pub same_entries : (a b : List Entry) → Both a b → SameEntries a b
same_entries a b k =
    record {
      to_new = λ e some i.
          let at = ap (λ (x : Entry). x.src) i.there in
          let found = walk.look_up_of a k.old_kept i.at i.within (λ z. some (sym at ∙ z)) ∙ i.there in
          let looked = sym (k.looks e.src some) ∙ ap (old.look_up a) (sym at) ∙ found in
          let there = listed_new k e.src some (ap (λ (x : Entry). x.src) (k.looks e.src some ∙ looked)) in
          let p = new.entry_place b e.src in
          let long = k.new_kept.places in
          let w = stands_within b p (get_or b p no_entry) refl (λ z. some (sym there ∙ z)) in
          record { at = p; within = omega arith; there = sym (order.look_up_there b e.src there) ∙ looked };
      to_old = λ e some i.
          let at = ap (λ (x : Entry). x.src) i.there in
          let found = order.look_up_of b k.new_kept.ascends i.at i.within (λ z. some (sym at ∙ z)) ∙ i.there in
          let looked = k.looks e.src some ∙ ap (new.look_up b) (sym at) ∙ found in
          record { at = old.entry_place a e.src; within = walk.stands a k.old_kept e.src some (ap (λ (x : Entry). x.src) looked); there = walk.looked_at a e.src looked };
    }
