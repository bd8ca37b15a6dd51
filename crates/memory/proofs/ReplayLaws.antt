-- The replay list from the code's tests: each answer follows from what stands at the place where a source's entry does, or would, and from whether the last place is empty.
-- Assumes nothing.
use mathlib.Core.Bool.{true, false}
use mathlib.Core.List.{List}
use mathlib.Core.Path.{◌≡◌, refl, ap, ◌∙◌}
use Prim.Native.Nat.{ℕ, ◌-◌, ◌≤◌, ◌<◌}
use borrow.Author.Tests.{eq-eqb, ne_eqb, lt-ltb, le-ltb, ltb-true, ltb-false}
use lib.Dec.{eqb, ltb}
use lib.ListN.{length, get_or, set, get_or-eq_default}
use Rattle.common.specs.Lists.{tab}
use Rattle.common.proofs.Tests.{by_test}
use Rattle.memory.specs.declared.replay.Entry.{Entry}
use Rattle.memory.specs.declared.replay.Place.{Place}
use Rattle.memory.specs.Replay.{replay_entries, no_entry, before, entry_place, standing, is_listed, look_up, last_free, has_room, shifted_at, inserted}

-- ---- before
module _ (e : Entry) (src : ℕ) where
  pub before_none : e.src ≡ 0 → false ≡ before src e
  unfolding before
  before_none h = rw (eq-eqb e.src 0 h)

  pub before_less : (e.src ≡ 0 → ⊥) → ltb e.src src ≡ before src e
  unfolding before
  before_less h = rw (ne_eqb e.src 0 h)

-- ---- where a source's entry stands, or would
module _ (l : List Entry) (src i : ℕ) (e : i ≡ entry_place l src) where
  pub find_there : {held : Entry} → held ≡ get_or l i no_entry → record { at = i; held = held } ≡ standing l src
  find_there q = rw (← e, q)

  pub find_past : length l ≤ i → {held : Entry} → held ≡ no_entry → record { at = i; held = held } ≡ standing l src
  find_past h q = rw (← e, q, get_or-eq_default l no_entry {n = i} h)

-- ---- the last place
module _ (l : List Entry) where
  pub last_free_law : (get_or l 31 no_entry).src ≡ 0 → last_free l ≡ true
  unfolding last_free
  last_free_law h = eq-eqb (get_or l 31 no_entry).src 0 h

  pub last_used : ((get_or l 31 no_entry).src ≡ 0 → ⊥) → last_free l ≡ false
  unfolding last_free
  last_used h = ne_eqb (get_or l 31 no_entry).src 0 h

-- ---- a source's entry, by what stands there
module _ (l : List Entry) (src : ℕ) (p : Place) (ep : p ≡ standing l src) where
  listed_is : eqb p.held.src src ≡ is_listed l src
  unfolding is_listed
  listed_is = rw ep

  pub look_own : p.held.src ≡ src → p.held ≡ look_up l src
  unfolding look_up
  look_own h = rw (← listed_is, eq-eqb p.held.src src h, ep)

  pub look_none : (p.held.src ≡ src → ⊥) → (x : Entry) → x ≡ no_entry → x ≡ look_up l src
  unfolding look_up
  look_none h x ex = rw (← listed_is, ne_eqb p.held.src src h, ex)

  pub room_own : p.held.src ≡ src → true ≡ has_room l src
  unfolding has_room
  room_own h = rw (← listed_is, eq-eqb p.held.src src h)

  pub room_last : (p.held.src ≡ src → ⊥) → last_free l ≡ has_room l src
  unfolding has_room
  room_last h = rw (← listed_is, ne_eqb p.held.src src h)

-- a place where something stands is one of the list's
pub stands_within : (l : List Entry) (i : ℕ) (e : Entry) → e ≡ get_or l i no_entry → (e.src ≡ 0 → ⊥) → i < length l
stands_within l i e q z =
    by_test (ltb i (length l)) (ltb-true i (length l))
    (λ t. absurd (z (ap (λ (x : Entry). x.src) (q ∙ get_or-eq_default l no_entry {n = i} (ltb-false i (length l) t)))))

pub found_within : (l : List Entry) (src : ℕ) (p : Place) → p ≡ standing l src → (p.held.src ≡ 0 → ⊥) → p.at < length l
found_within l src p ep z = stands_within l p.at p.held (rw ep refl) z

-- ---- the places of a list with an entry more
module _ (l : List Entry) (p : ℕ) (e : Entry) (i : ℕ) where
  pub shift_below : i < p → get_or l i no_entry ≡ shifted_at l p e i
  unfolding shifted_at
  shift_below h = rw (lt-ltb i p h)

  module _ (h : p ≤ i) where
    pub shift_here : i ≡ p → e ≡ shifted_at l p e i
    unfolding shifted_at
    shift_here k = rw (le-ltb i p h, eq-eqb i p k)

    pub shift_above : (i ≡ p → ⊥) → get_or l (i - 1) no_entry ≡ shifted_at l p e i
    unfolding shifted_at
    shift_above k = rw (le-ltb i p h, ne_eqb i p k)

-- ---- an entry goes in
module _ (l : List Entry) (e : Entry) where
  pub insert_zero : e.src ≡ 0 → l ≡ inserted l e
  unfolding inserted
  insert_zero h = rw (eq-eqb e.src 0 h)

  module _ (h : e.src ≡ 0 → ⊥) (p : Place) (ep : p ≡ standing l e.src) where
    pub insert_own : p.held.src ≡ e.src → set l p.at e ≡ inserted l e
    unfolding inserted
    insert_own k = rw (ne_eqb e.src 0 h, ← listed_is l e.src p ep, eq-eqb p.held.src e.src k, ep)

    module _ (k : p.held.src ≡ e.src → ⊥) where
      pub insert_between : last_free l ≡ true → (after : List Entry) → after ≡ tab (shifted_at l p.at e) replay_entries → after ≡ inserted l e
      unfolding inserted
      insert_between t after ea = rw (ne_eqb e.src 0 h, ← listed_is l e.src p ep, ne_eqb p.held.src e.src k, t, ea, ep)

      pub insert_full : last_free l ≡ false → l ≡ inserted l e
      unfolding inserted
      insert_full t = rw (ne_eqb e.src 0 h, ← listed_is l e.src p ep, ne_eqb p.held.src e.src k, t)
