-- A cache is read from its oldest entry on. One entry more takes the oldest away and stands at the end, so further ones leave the last sixteen of what stood there and of them. Behind an
-- empty cache the places that are left over are the empty ones. What is seen is one of the entries, wherever the reading begins. Sixteen further ones have filled every place; fewer have
-- left the newest before them. Assumes nothing.
--   last_few, last_all                  the last sixteen of sixteen and some more
--   oldest_more, oldest_further         the cache with an entry more, and with further ones
--   holds_last, seen_exactly            `HoldsLast`, `SeenExactly`
--   still_seen, seen_no_more            `StillSeen`, `SeenNoMore`
--   further_append                      one list behind the other
--   among_last                          what is among the last sixteen is in the list
use mathlib.Core.Bool.{true}
use mathlib.Core.List.{List, [], ◌∷◌, ◌++◌, map, append_assoc, append-nil}
use mathlib.Core.Logic.{◌⊎◌, inl, inr, ⊎_elim}
use mathlib.Core.Path.{◌≡◌, refl, sym, ap, ◌∙◌, subst}
use Prim.Native.Nat.{ℕ, zero, suc, ◌+◌, ◌-◌, ◌%◌, ◌≤◌, ◌<◌}
use native.Mathlib.Omega.{arith}
use borrow.Author.Tests.{ne_eqb, eqb-true, eqb-false, leb-true, leb-false}
use lib.Dec.{eqb, leb}
use lib.ListN.{length, get_or, set, take, drop, replicate, length-append, length-drop, length-map, length-set, take-append-drop, get_or-append}
use lib.Seq.{drop-nil, drop-drop, drop-append-le, drop-append-add, get_or-drop, get_or-append-add, get_or-set_same, get_or-set_other, ext_get_or}
use Rattle.common.specs.Search.{picked}
use Rattle.common.proofs.Picked.{picked_append}
use Rattle.common.proofs.Tests.{by_test}
use Rattle.network.specs.declared.header.Header.{Header}
use Rattle.memory.specs.declared.cache.Cache.{Cache}
use Rattle.memory.specs.declared.cache.Seen.{Seen}
use Rattle.memory.specs.Cache.{cache_entries, no_seen, no_cache, seen_of, seen, remembered, oldest_first}
use Rattle.memory.specs.Remembered.{further, is_entry, held, last_entries, Among, Sourced, HoldsLast, SeenExactly, NoneIs, StillSeen, SeenNoMore}
use Rattle.memory.proofs.CacheLaws.{length_remembered, seen_at, seen_place, rotated, length_rotated}

-- ---- the last sixteen of sixteen and some more
module _ (a b : List Seen) (sixteen : length a ≡ cache_entries) where
  -- where there are few more, the end of the sixteen is among them
  last_few : length b ≤ cache_entries → last_entries (a ++ b) ≡ drop (length b) a ++ b
  unfolding last_entries
  last_few few =
      let n : length (a ++ b) - cache_entries ≡ length b = rw (length-append a b) (omega arith) in
      ap (λ (k : ℕ). drop k (a ++ b)) n ∙ drop-append-le (length b) a b (omega arith)

  -- where there are sixteen more, they alone count
  last_all : cache_entries ≤ length b → last_entries (a ++ b) ≡ last_entries b
  unfolding last_entries
  last_all many =
      let n : length (a ++ b) - cache_entries ≡ length a + (length b - cache_entries) = rw (length-append a b) (omega arith) in
      ap (λ (k : ℕ). drop k (a ++ b)) n ∙ drop-append-add a b (length b - cache_entries)

-- the first of more than sixteen does not count
last_rest : (l : List Seen) → cache_entries < length l → last_entries (drop 1 l) ≡ last_entries l
unfolding last_entries
last_rest l many =
    let n : 1 + (length (drop 1 l) - cache_entries) ≡ length l - cache_entries = rw (length-drop 1 l) (omega arith) in
    drop-drop (length (drop 1 l) - cache_entries) 1 l ∙ ap (λ (k : ℕ). drop k l) n

-- ---- an entry more
length_oldest : (c : Cache) → length c.entries ≡ cache_entries → length (oldest_first c) ≡ cache_entries
length_oldest c long = length_rotated c.entries (c.next % cache_entries) (omega arith) ∙ long

-- all but the oldest
length_rest : (c : Cache) → length c.entries ≡ cache_entries → length (drop 1 (oldest_first c)) ≡ cache_entries - 1
length_rest c long = length-drop 1 (oldest_first c) ∙ ap (λ (n : ℕ). n - 1) (length_oldest c long)

module _ (c : Cache) (h : Header) (long : length c.entries ≡ cache_entries) where
  -- the oldest goes, and the new one stands at the end
  oldest_more : oldest_first (remembered c h) ≡ drop 1 (oldest_first c) ++ seen_of h ∷ []
  unfolding remembered
  oldest_more =
      let at = c.next % cache_entries in
      let turn = (at + 1) % cache_entries % cache_entries in
      let rest = drop 1 (oldest_first c) in
      let more = set c.entries at (seen_of h) in
      let many = length_oldest c long in
      let but-one = length_rest c long in
      let all = length-set c.entries at (seen_of h) ∙ long in
      let whole : length (rest ++ seen_of h ∷ []) ≡ cache_entries = length-append rest (seen_of h ∷ []) ∙ ap (λ (n : ℕ). n + 1) but-one in
      ext_get_or no_seen (oldest_first (remembered c h)) (rest ++ seen_of h ∷ []) (length_oldest (remembered c h) all ∙ sym whole)
      (λ i low.
      let within : i < cache_entries = omega (arith, length_oldest (remembered c h) all) in
      rotated no_seen more turn i all (omega arith) within
      ∙ by_test (eqb i (cache_entries - 1))
      (λ t.
      let last = eqb-true i (cache_entries - 1) t in
      let here : (turn + i) % cache_entries ≡ at = omega arith in
      let end : i ≡ length rest + 0 = omega arith in
      ap (λ (j : ℕ). get_or more j no_seen) here
      ∙ get_or-set_same c.entries at (seen_of h) no_seen (omega arith)
      ∙ sym (ap (λ (j : ℕ). get_or (rest ++ seen_of h ∷ []) j no_seen) end ∙ get_or-append-add rest (seen_of h ∷ []) 0 no_seen))
      (λ t.
      let other = eqb-false i (cache_entries - 1) t in
      let away : (turn + i) % cache_entries ≡ at → ⊥ = λ e. omega arith in
      let place : (turn + i) % cache_entries ≡ (at + (1 + i)) % cache_entries = omega arith in
      get_or-set_other c.entries at ((turn + i) % cache_entries) (seen_of h) no_seen away
      ∙ ap (λ (j : ℕ). get_or c.entries j no_seen) place
      ∙ sym (get_or-append rest (seen_of h ∷ []) no_seen i (omega arith)
      ∙ get_or-drop 1 (oldest_first c) i no_seen ∙ rotated no_seen c.entries at (1 + i) long (omega arith) (omega arith))))

-- ---- further ones
oldest_further :
    (c : Cache) (l : List Header) → length c.entries ≡ cache_entries → oldest_first (further c l) ≡ last_entries (oldest_first c ++ map seen_of l)
oldest_further c [] long = sym (last_few (oldest_first c) [] (length_oldest c long) (omega arith) ∙ append-nil (oldest_first c))
oldest_further c (h ∷ l) long =
    let old = oldest_first c in
    let new = map seen_of (h ∷ l) in
    let many = length_oldest c long in
    let more : cache_entries < length (old ++ new) = rw (length-append old new) (omega arith) in
    oldest_further (remembered c h) l (length_remembered c h ∙ long)
    ∙ ap (λ (x : List Seen). last_entries (x ++ map seen_of l)) (oldest_more c h long)
    ∙ ap last_entries (append_assoc (drop 1 old) (seen_of h ∷ []) (map seen_of l) ∙ sym (drop-append-le 1 old new (omega arith)))
    ∙ last_rest (old ++ new) more

pub further_append : (c : Cache) (a b : List Header) → further c (a ++ b) ≡ further (further c a) b
further_append c [] b = refl
further_append c (h ∷ a) b = further_append (remembered c h) a b

length_further : (c : Cache) (l : List Header) → length (further c l).entries ≡ length c.entries
length_further c [] = refl
length_further c (h ∷ l) = length_further (remembered c h) l ∙ length_remembered c h

-- ---- behind an empty one
empties : (k n : ℕ) → picked is_entry (drop n (replicate k no_seen)) ≡ []
unfolding picked
empties zero n = rw (drop-nil {A = Seen} n) refl
empties (suc k) zero = empties k zero
empties (suc k) (suc n) = empties k n

entries_stay : (l : List Header) (n : ℕ) → Sourced l → picked is_entry (drop n (map seen_of l)) ≡ drop n (map seen_of l)
unfolding picked
entries_stay [] n s = rw (drop-nil {A = Seen} n) refl
entries_stay (h ∷ l) zero s = rw (ne_eqb h.src 0 s.0) (ap (λ (x : List Seen). seen_of h ∷ x) (entries_stay l zero s.1))
entries_stay (h ∷ l) (suc n) s = entries_stay l n s.1

pub holds_last : HoldsLast
unfolding held last_entries
holds_last l s =
    let empty = replicate cache_entries no_seen in
    let new = map seen_of l in
    let begins : oldest_first no_cache ≡ empty = append-nil empty in
    ap (picked is_entry) (oldest_further no_cache l refl ∙ ap (λ (x : List Seen). last_entries (x ++ new)) begins)
    ∙ by_test (leb (length new) cache_entries)
    (λ t.
    let few = leb-true (length new) cache_entries t in
    let none : 0 ≡ length new - cache_entries = omega arith in
    ap (picked is_entry) (last_few empty new refl few)
    ∙ picked_append is_entry (drop (length new) empty) new
    ∙ rw (empties cache_entries (length new)) (entries_stay l 0 s ∙ ap (λ (n : ℕ). drop n new) none))
    (λ t.
    let many = leb-false (length new) cache_entries t in
    ap (picked is_entry) (last_all empty new refl (omega arith)) ∙ entries_stay l (length new - cache_entries) s)

-- ---- what is seen
module _ (e : Seen) where
  among_left : (a b : List Seen) → Among e a → Among e (a ++ b)
  among_left [] b m = absurd m
  among_left (x ∷ a) b m = ⊎_elim (λ h. inl h) (λ r. inr (among_left a b r)) m

  among_right : (a b : List Seen) → Among e b → Among e (a ++ b)
  among_right [] b m = m
  among_right (x ∷ a) b m = inr (among_right a b m)

  among_either : (a b : List Seen) → Among e (a ++ b) → Among e a ⊎ Among e b
  among_either [] b m = inr m
  among_either (x ∷ a) b m = ⊎_elim (λ h. inl (inl h)) (λ r. ⊎_elim (λ s. inl (inr s)) (λ s. inr s) (among_either a b r)) m

  among_turned : (a b : List Seen) → Among e (a ++ b) → Among e (b ++ a)
  among_turned a b m = ⊎_elim (among_right b a) (among_left b a) (among_either a b m)

  among_drop : (n : ℕ) (l : List Seen) → Among e (drop n l) → Among e l
  among_drop zero l m = m
  among_drop (suc n) [] m = absurd m
  among_drop (suc n) (x ∷ l) m = inr (among_drop n l m)

  pub among_last : (l : List Seen) → Among e (last_entries l) → Among e l
  unfolding last_entries
  among_last l m = among_drop (length l - cache_entries) l m

  among_at : (l : List Seen) (j : ℕ) → j < length l → get_or l j no_seen ≡ e → Among e l
  among_at [] j low here = absurd (omega arith)
  among_at (x ∷ l) zero low here = inl (sym here)
  among_at (x ∷ l) (suc j) low here = inr (among_at l j (omega arith) here)

  place_among : (l : List Seen) → Among e l → (j : ℕ) × (j < length l) × (get_or l j no_seen ≡ e)
  place_among [] m = absurd m
  place_among (x ∷ l) m = ⊎_elim (λ h. (0, omega arith, sym h)) (λ r. let p = place_among l r in (suc p.0, (let low = p.1 in omega arith), p.2)) m

  -- with a source it is no empty place
  among_entries : (e.src ≡ 0 → ⊥) → (l : List Seen) → Among e l → Among e (picked is_entry l)
  unfolding picked
  among_entries z [] m = m
  among_entries z (x ∷ l) m =
      ⊎_elim (λ h. rw (ne_eqb x.src 0 (λ y. z (ap (λ (s : Seen). s.src) h ∙ y))) (inl h))
      (λ r.
      let rest = among_entries z l r in
      by_test (is_entry x) (λ t. rw t (inr rest)) (λ t. rw t rest)) m

  entries_among : (l : List Seen) → Among e (picked is_entry l) → Among e l
  unfolding picked
  entries_among [] m = m
  entries_among (x ∷ l) m =
      by_test (is_entry x)
      (λ t. let n : Among e (x ∷ picked is_entry l) = rw t at m in ⊎_elim (λ h. inl h) (λ r. inr (entries_among l r)) n)
      (λ t. let n : Among e (picked is_entry l) = rw t at m in inr (entries_among l n))

module _ (c : Cache) (h : Header) (long : length c.entries ≡ cache_entries) where
  abbrev at : ℕ
  at = c.next % cache_entries

  seen_among : seen c h ≡ true → Among (seen_of h) (oldest_first c)
  seen_among t =
      let p = seen_place c h long t in
      let low = p.1 in
      let there = among_at (seen_of h) c.entries p.0 (omega arith) p.2 in
      among_turned (seen_of h) (take at c.entries) (drop at c.entries) (rw (take-append-drop at c.entries) there)

  among_seen : Among (seen_of h) (oldest_first c) → seen c h ≡ true
  among_seen m =
      let turned = among_turned (seen_of h) (drop at c.entries) (take at c.entries) m in
      let p = place_among (seen_of h) c.entries (subst (Among (seen_of h)) (take-append-drop at c.entries) turned) in
      let low = p.1 in
      seen_at c h p.0 (omega arith) p.2

pub seen_exactly : SeenExactly
unfolding held
seen_exactly c h long z = (
  (λ t. among_entries (seen_of h) z (oldest_first c) (seen_among c h long t)),
  (λ m. among_seen c h long (entries_among (seen_of h) (oldest_first c) m)),
)

-- ---- how long
pub still_seen : StillSeen
still_seen c h l long few =
    let c1 = remembered c h in
    let all = length_remembered c h ∙ long in
    let new = map seen_of l in
    let n : length new ≡ length l = length-map l seen_of in
    let rest = drop 1 (oldest_first c) in
    let but-one = length_rest c long in
    let stays : drop (length new) (oldest_first c1) ≡ drop (length new) rest ++ seen_of h ∷ [] =
    ap (drop (length new)) (oldest_more c h long) ∙ drop-append-le (length new) rest (seen_of h ∷ []) (omega arith) in
    let there : Among (seen_of h) (drop (length new) (oldest_first c1)) = rw stays (among_right (seen_of h) (drop (length new) rest) (seen_of h ∷ []) (inl refl)) in
    let order = oldest_further c1 l all ∙ last_few (oldest_first c1) new (length_oldest c1 all) (omega arith) in
    among_seen (further c1 l) h (length_further c1 l ∙ all) (rw order (among_left (seen_of h) (drop (length new) (oldest_first c1)) new there))

none_among : (h : Header) (l : List Header) → NoneIs h l → Among (seen_of h) (map seen_of l) → ⊥
none_among h [] n m = m
none_among h (x ∷ l) n m = ⊎_elim (λ e. n.0 (sym e)) (none_among h l n.1) m

pub seen_no_more : SeenNoMore
seen_no_more c h l long many none =
    let c1 = remembered c h in
    let all = length_remembered c h ∙ long in
    let new = map seen_of l in
    let n : length new ≡ length l = length-map l seen_of in
    let order = oldest_further c1 l all ∙ last_all (oldest_first c1) new (length_oldest c1 all) (omega arith) in
    by_test (seen (further c1 l) h)
    (λ t. absurd (none_among h l none (among_last (seen_of h) new (subst (Among (seen_of h)) order (seen_among (further c1 l) h (length_further c1 l ∙ all) t)))))
    (λ t. t)
