-- What an insertion leaves: the list is kept as it was, every other source's entry stands somewhere, and what stands there stood before or is the new one. The entry goes to its source's
-- place, or between the lesser and the greater, which move up by one; or the list stays. Assumes nothing.
--   Goes, goes   what the list is then
--   stands_new   the entry stands where there is room
use mathlib.Core.Bool.{true}
use mathlib.Core.List.{List}
use mathlib.Core.Logic.{◌⊎◌, inl, inr}
use mathlib.Core.Path.{◌≡◌, refl, sym, ap, ◌∙◌, subst}
use Prim.Native.Nat.{ℕ, ◌+◌, ◌-◌, ◌≤◌, ◌<◌}
use native.Mathlib.Omega.{arith}
use borrow.Author.Tests.{eqb-true, eqb-false, ltb-true, ltb-false}
use lib.Dec.{eqb, ltb}
use lib.ListN.{length, get_or, set, length-set}
use lib.Seq.{get_or-set_same, get_or-set_other}
use Rattle.common.specs.Lists.{tab}
use Rattle.common.proofs.Lists.{length_tab, get_d_tab}
use Rattle.common.proofs.Tests.{by_test}
use Rattle.memory.specs.declared.replay.Entry.{Entry}
use Rattle.memory.specs.Replay.{replay_entries, no_entry, entry_place, standing, last_free, has_room, shifted_at, inserted, Ascending, ReplayKept}
use Rattle.memory.proofs.ReplayLaws.{room_last, stands_within, shift_below, shift_here, shift_above, insert_zero, insert_own, insert_between, insert_full}
use Rattle.memory.proofs.ReplayOrder.{source_at, before_some, before_lesser, before_not, found, ends_there}

-- what the list is then: every other source's entry stands somewhere, and what stands there stood, or is the new one
pub record Goes (l : List Entry) (e : Entry) (b : List Entry) : Type 0 where
  pub kept : ReplayKept b
  pub moved : (i : ℕ) → i < replay_entries → (source_at l i ≡ 0 → ⊥) → (source_at l i ≡ e.src → ⊥) → (j : ℕ) × (j < replay_entries) × (get_or b j no_entry ≡ get_or l i no_entry)
  pub came : (j : ℕ) → j < replay_entries → (get_or b j no_entry ≡ e) ⊎ ((i : ℕ) × (i < replay_entries) × (get_or b j no_entry ≡ get_or l i no_entry))

module _ (l : List Entry) (k : ReplayKept l) (e : Entry) where
  goes_stays : Goes l e l
  goes_stays = record { kept = k; moved = λ i h z n. (i, h, refl); came = λ j h. inr (j, h, refl) }

module _ (l : List Entry) (k : ReplayKept l) (e : Entry) (some : e.src ≡ 0 → ⊥) where
  abbrev place : ℕ
  place = entry_place l e.src

  -- its source has an entry
  module _ (own : source_at l place ≡ e.src) where
    own_within : place < length l
    own_within = stands_within l place (get_or l place no_entry) refl (λ z. some (sym own ∙ z))

    set_source : (i : ℕ) → source_at (set l place e) i ≡ source_at l i
    set_source i =
        by_test (eqb i place)
        (λ t. rw (eqb-true i place t) (ap (λ (x : Entry). x.src) (get_or-set_same l place e no_entry own_within) ∙ sym own))
        (λ t. ap (λ (x : Entry). x.src) (get_or-set_other l place i e no_entry (eqb-false i place t)))

    goes_own : Goes l e (set l place e)
    goes_own =
        record {
          kept =
              record {
                places = length-set l place e ∙ k.places;
                ascends = λ i j h w z. rw (set_source i, set_source j) (k.ascends i j h w (λ q. z (set_source j ∙ q)));
              };
          moved = λ i h z n. (i, h, get_or-set_other l place i e no_entry (λ q. n (ap (source_at l) q ∙ own)));
          came = λ j h.
              by_test (eqb j place) (λ t. inl (rw (eqb-true j place t) (get_or-set_same l place e no_entry own_within)))
              (λ t. inr (j, h, get_or-set_other l place j e no_entry (eqb-false j place t)));
        }

  -- it has none, and the last place is empty
  module _ (new : source_at l place ≡ e.src → ⊥) (free : last_free l ≡ true) where
    abbrev after : List Entry
    after = inserted l e

    between_is : after ≡ tab (shifted_at l place e) replay_entries
    between_is = sym (insert_between l e some (standing l e.src) refl new free _ refl)

    at_place : (i : ℕ) → i < replay_entries → get_or after i no_entry ≡ shifted_at l place e i
    at_place i h = rw between_is (get_d_tab (shifted_at l place e) replay_entries i no_entry h)

    last_empty : source_at l 31 ≡ 0
    unfolding last_free
    last_empty = eqb-true (source_at l 31) 0 free

    below : (i : ℕ) → i < place → (source_at l i ≡ 0 → ⊥) × (source_at l i < e.src)
    below i h =
        let t = (found l k.ascends e.src).holds i (omega arith) h in
        (before_some e.src (get_or l i no_entry) t, before_lesser e.src (get_or l i no_entry) t)

    place_low : place < replay_entries
    place_low =
        by_test (ltb place replay_entries) (ltb-true place replay_entries)
        (λ t. let n = ltb-false place replay_entries t in absurd ((below 31 (omega arith)).0 last_empty))

    above : (i : ℕ) → place ≤ i → i < replay_entries → (source_at l i ≡ 0 → ⊥) → e.src < source_at l i
    above i h w z =
        let m = before_not e.src (get_or l i no_entry) ((found l k.ascends e.src).ceases i h w) z in
        by_test (eqb (source_at l i) e.src)
        (λ t.
        let q = eqb-true (source_at l i) e.src t in
        absurd (new (ap (source_at l) (ends_there l k.ascends e.src i some w q) ∙ q)))
        (λ t. let n = eqb-false (source_at l i) e.src t in omega (arith, m))

    at_below : (i : ℕ) → i < place → get_or after i no_entry ≡ get_or l i no_entry
    at_below i h = let w = place_low in at_place i (omega arith) ∙ sym (shift_below l place e i h)

    at_here : get_or after place no_entry ≡ e
    at_here = at_place place place_low ∙ sym (shift_here l place e place (omega arith) refl)

    at_above : (i : ℕ) → place < i → i < replay_entries → get_or after i no_entry ≡ get_or l (i - 1) no_entry
    at_above i h w = at_place i w ∙ sym (shift_above l place e i (omega arith) (λ q. omega arith))

    -- before, at, or behind its place
    by_place : (P : ℕ → Type 0) → ((i : ℕ) → i < place → P i) → P place → ((i : ℕ) → place < i → P i) → (i : ℕ) → P i
    by_place P f g b i =
        by_test (ltb i place) (λ t. f i (ltb-true i place t))
        (λ t. let n = ltb-false i place t in
        by_test (eqb i place) (λ u. subst P (sym (eqb-true i place u)) g)
        (λ u. let m = eqb-false i place u in b i (omega arith)))

    source_below : (i : ℕ) → i < place → source_at after i ≡ source_at l i
    source_below i h = ap (λ (x : Entry). x.src) (at_below i h)

    source_here : source_at after place ≡ e.src
    source_here = ap (λ (x : Entry). x.src) at_here

    source_above : (i : ℕ) → place < i → i < replay_entries → source_at after i ≡ source_at l (i - 1)
    source_above i h w = ap (λ (x : Entry). x.src) (at_above i h w)

    -- place i is used, and its source is lesser than src
    abbrev Under : ℕ → ℕ → Type 0
    Under src i = (source_at after i ≡ 0 → ⊥) × (source_at after i < src)

    between_ascends : Ascending after
    between_ascends i j h w z =
        by_place (λ j. (i : ℕ) → i < j → j < replay_entries → (source_at after j ≡ 0 → ⊥) → Under (source_at after j) i)
        (λ j lo i h w z. rw (source_below i (omega arith), source_below j lo) (k.ascends i j h w (λ q. z (source_below j lo ∙ q))))
        (λ i h w z. rw (source_below i h, source_here) (below i h))
        (λ j hi i h w z.
        let stood : (source_at l (j - 1) ≡ 0 → ⊥) = λ q. z (source_above j hi w ∙ q) in
        let b = above (j - 1) (omega arith) (omega arith) stood in
        rw (source_above j hi w)
        (by_place (λ i. i < j → Under (source_at l (j - 1)) i)
        (λ i lo h. let n = below i lo in rw (source_below i lo) (n.0, omega (arith, n.1, b)))
        (λ h. rw source_here (some, b))
        (λ i hi h. rw (source_above i hi (omega arith)) (k.ascends (i - 1) (j - 1) (omega arith) (omega arith) stood))
        i h))
        j i h w z

    goes_between : Goes l e after
    goes_between =
        record {
          kept = record { places = rw between_is (length_tab (shifted_at l place e) replay_entries); ascends = between_ascends };
          moved = λ i h z n.
              by_test (ltb i place) (λ t. (i, h, at_below i (ltb-true i place t)))
              (λ t.
              let past = ltb-false i place t in
              by_test (eqb i 31) (λ u. absurd (z (ap (source_at l) (eqb-true i 31 u) ∙ last_empty)))
              (λ u.
              let not_last = eqb-false i 31 u in
              let back : i + 1 - 1 ≡ i = omega arith in
              (i + 1, omega arith, at_above (i + 1) (omega arith) (omega arith) ∙ ap (λ (j : ℕ). get_or l j no_entry) back)));
          came =
              by_place (λ j. j < replay_entries → (get_or after j no_entry ≡ e) ⊎ ((i : ℕ) × (i < replay_entries) × (get_or after j no_entry ≡ get_or l i no_entry)))
              (λ j lo h. inr (j, h, at_below j lo))
              (λ h. inl at_here)
              (λ j hi h. inr (j - 1, omega arith, at_above j hi h));
        }

  -- in each case
  goes_some : Goes l e (inserted l e)
  goes_some =
      by_test (eqb (source_at l place) e.src)
      (λ t. let own = eqb-true (source_at l place) e.src t in subst (Goes l e) (insert_own l e some (standing l e.src) refl own) (goes_own own))
      (λ t.
      let new = eqb-false (source_at l place) e.src t in
      by_test (last_free l)
      (λ f. goes_between new f)
      (λ f. subst (Goes l e) (insert_full l e some (standing l e.src) refl new f) (goes_stays l k e)))

  -- it stands where there is room
  pub stands_new : has_room l e.src ≡ true → (i : ℕ) × (i < replay_entries) × (get_or (inserted l e) i no_entry ≡ e)
  stands_new room =
      by_test (eqb (source_at l place) e.src)
      (λ t.
      let own = eqb-true (source_at l place) e.src t in
      let w = own_within own in
      (place, rw (← k.places) w, rw (← insert_own l e some (standing l e.src) refl own) (get_or-set_same l place e no_entry w)))
      (λ t.
      let new = eqb-false (source_at l place) e.src t in
      let free = room_last l e.src (standing l e.src) refl new ∙ room in
      (place, place_low new free, at_here new free))

module _ (l : List Entry) (k : ReplayKept l) (e : Entry) where
  pub goes : Goes l e (inserted l e)
  goes =
      by_test (eqb e.src 0) (λ t. subst (Goes l e) (insert_zero l e (eqb-true e.src 0 t)) (goes_stays l k e))
      (λ t. goes_some l k e (eqb-false e.src 0 t))
