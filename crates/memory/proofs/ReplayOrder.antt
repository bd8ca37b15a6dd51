-- A replay list in ascending order: that an entry is before a source holds up to the source's place, and not from there on, so halving ends where it stands, and it is looked up there. No
-- source stands twice, and an empty place is behind all that are used. Assumes nothing.
--   entries_keyed                 entries as elements with a key
--   before_.., found              which entries stand before a source
--   sources_apart                 no source stands twice
--   last_free_law, last_free_by   where a place is empty the last is
--   ends_there                    halving ends where a source stands
--   look_up_there, ..             what is looked up
use mathlib.Core.Bool.{true, false, false≢true}
use mathlib.Core.List.{List}
use mathlib.Core.Logic.{◌⊎◌, inl, inr}
use mathlib.Core.Path.{◌≡◌, refl, sym, ap, ◌∙◌}
use Prim.Native.Nat.{ℕ, ◌≤◌, ◌<◌}
use native.Mathlib.Omega.{arith}
use borrow.Author.Tests.{eq-eqb, eqb-true, eqb-false, lt-ltb, ltb-true, ltb-false}
use lib.Dec.{eqb, ltb}
use lib.ListN.{length, get_or}
use Rattle.common.proofs.Halving.{Falls, Found, halve_finds}
use Rattle.common.proofs.Tests.{by_test}
use Rattle.memory.specs.declared.replay.Entry.{Entry}
use Rattle.memory.specs.Replay.{replay_entries, replay_looks, no_entry, before, entry_place, standing, look_up, last_free, Ascending, EndsThere}
use Rattle.memory.proofs.Keyed as keyed
use Rattle.memory.proofs.ReplayLaws.{before_none, before_less, look_own, look_none}

abbrev pub entries_keyed : keyed.Keyed Entry ℕ
entries_keyed =
    record { key = λ (e : Entry). e.src; same = eqb; none = λ a. eqb a 0; same_told = eqb-true; same_self = λ a. eq-eqb a a refl }

-- the source at a place
abbrev pub source_at : List Entry → ℕ → ℕ
source_at l i = (get_or l i no_entry).src

-- ---- an entry before a source
module _ (src : ℕ) (e : Entry) where
  pub before_if : (e.src ≡ 0 → ⊥) → e.src < src → before src e ≡ true
  before_if z h = sym (before_less e src z) ∙ lt-ltb e.src src h

  module _ (t : before src e ≡ true) where
    pub before_some : e.src ≡ 0 → ⊥
    before_some z = false≢true (before_none e src z ∙ t)

    pub before_lesser : e.src < src
    before_lesser = ltb-true e.src src (before_less e src before_some ∙ t)

  pub before_not : before src e ≡ false → (e.src ≡ 0 → ⊥) → src ≤ e.src
  before_not t z = ltb-false e.src src (before_less e src z ∙ t)

-- ---- an ascending list
module _ (l : List Entry) (up : Ascending l) where
  pub found : (src : ℕ) → Found (λ i. before src (get_or l i no_entry)) 0 replay_entries (entry_place l src)
  unfolding entry_place
  found src = halve_finds (λ i. before src (get_or l i no_entry)) replay_entries falls replay_looks 0 replay_entries (omega arith) (omega arith) (omega arith)
    where
      falls : Falls (λ i. before src (get_or l i no_entry)) replay_entries
      falls i j h k t =
          let n = up i j h k (before_some src (get_or l j no_entry) t) in
          let m = before_lesser src (get_or l j no_entry) t in
          before_if src (get_or l i no_entry) n.0 (omega (arith, n.1, m))

  -- no source stands twice
  pub sources_apart : keyed.Apart entries_keyed no_entry replay_entries l
  sources_apart i j hi hj u e =
      let some = eqb-false (source_at l i) 0 u in
      by_test (ltb i j) (λ t. let n = up i j (ltb-true i j t) hj (λ z. some (e ∙ z)) in absurd (omega (arith, n.1)))
      (λ t. by_test (ltb j i) (λ v. let n = up j i (ltb-true j i v) hi some in absurd (omega (arith, n.1)))
      (λ v. let a = ltb-false i j t in let b = ltb-false j i v in omega arith))

  -- an empty place is behind all that are used, so the last is empty
  pub last_free_law : (i : ℕ) → i < replay_entries → source_at l i ≡ 0 → last_free l ≡ true
  unfolding last_free
  last_free_law i h z =
      by_test (eqb (source_at l 31) 0) (λ t. t)
      (λ t.
      let some = eqb-false (source_at l 31) 0 t in
      by_test (eqb i 31) (λ u. absurd (some (ap (source_at l) (sym (eqb-true i 31 u)) ∙ z)))
      (λ u. let n = eqb-false i 31 u in absurd ((up i 31 (omega arith) (omega arith) some).0 z)))

  pub last_free_by : length l ≡ replay_entries → keyed.free entries_keyed no_entry l < replay_entries → last_free l ≡ true
  last_free_by long h =
      let i = keyed.free entries_keyed no_entry l in
      last_free_law i h (eqb-true (source_at l i) 0 (keyed.free_none entries_keyed no_entry l (omega arith)))

pub ends_there : EndsThere
ends_there l up src i some h e =
    let k = entry_place l src in
    let f = found l up src in
    by_test (ltb k i)
    (λ t.
    let n = up k i (ltb-true k i t) h (λ z. some (sym e ∙ z)) in
    absurd (false≢true (sym (f.ceases k (omega arith) (omega (arith, ltb-true k i t))) ∙ before_if src (get_or l k no_entry) n.0 (omega (arith, n.1, e)))))
    (λ t. by_test (ltb i k)
    (λ u. let m = before_lesser src (get_or l i no_entry) (f.holds i (omega arith) (ltb-true i k u)) in absurd (omega (arith, m, e)))
    (λ u. let a = ltb-false k i t in let b = ltb-false i k u in omega arith))

-- ---- what is looked up
-- what stands at the place of a source is looked up
module _ (l : List Entry) (src : ℕ) where
  pub look_up_there : source_at l (entry_place l src) ≡ src → look_up l src ≡ get_or l (entry_place l src) no_entry
  look_up_there e = sym (look_own l src (standing l src) refl e)

  pub look_up_not_there : (source_at l (entry_place l src) ≡ src → ⊥) → look_up l src ≡ no_entry
  look_up_not_there n = sym (look_none l src (standing l src) refl n no_entry refl)

  -- what is looked up stands there, or there is none
  pub looked_up : (source_at l (entry_place l src) ≡ src) ⊎ (look_up l src ≡ no_entry)
  looked_up =
      by_test (eqb (source_at l (entry_place l src)) src) (λ t. inl (eqb-true (source_at l (entry_place l src)) src t))
      (λ t. inr (look_up_not_there (eqb-false (source_at l (entry_place l src)) src t)))

-- wherever it stands in an ascending list
pub look_up_of : (l : List Entry) → Ascending l → (i : ℕ) → i < replay_entries → (source_at l i ≡ 0 → ⊥) → look_up l (source_at l i) ≡ get_or l i no_entry
look_up_of l up i h some =
    let e = ends_there l up (source_at l i) i some h refl in
    look_up_there l (source_at l i) (ap (source_at l) e) ∙ ap (λ (j : ℕ). get_or l j no_entry) e
