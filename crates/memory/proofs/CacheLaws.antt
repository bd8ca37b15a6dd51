-- What the cache holds after an entry more: as many places, the newest entry among them, and else only what was there. An empty one holds nothing of a source. Its entries are their own keys,
-- and what is seen is one of them. Read from the oldest on, its places are the same, turned.
-- Assumes nothing.
use mathlib.Core.Bool.{true, false, ◌&&◌}
use mathlib.Core.List.{List, ◌++◌}
use mathlib.Core.Logic.{◌⊎◌, inl, inr}
use mathlib.Core.Path.{◌≡◌, refl, sym, ap, ap₂, ◌∙◌}
use Prim.Native.Nat.{ℕ, ◌+◌, ◌-◌, ◌%◌, ◌≤◌, ◌<◌}
use native.Mathlib.Omega.{arith}
use borrow.Author.Tests.{eq-eqb, eqb-true, eqb-false, lt-ltb, ltb-true, ltb-false}
use lib.Dec.{eqb, ltb}
use lib.ListN.{length, get_or, take, drop, length-append, length-take, length-drop, length-set, length-replicate, get_or-replicate, get_or-append}
use lib.Seq.{get_or-take, get_or-drop, get_or-append-add, get_or-set_same, get_or-set_other}
use Rattle.common.proofs.Tests.{by_test, and_first, and_second}
use Rattle.network.specs.declared.header.Header.{Header}
use Rattle.memory.specs.declared.cache.Cache.{Cache}
use Rattle.memory.specs.declared.cache.Seen.{Seen}
use Rattle.memory.specs.Cache.{cache_entries, no_seen, no_cache, seen_of, same_seen, seen, remembered}
use Rattle.memory.proofs.Keyed.{each_set, Keyed, place, found_key, place_upto}

same_told : (a b : Seen) → same_seen a b ≡ true → a ≡ b
same_told a b e =
    let pair = and_second (eqb a.src b.src) (eqb a.seq b.seq && eqb a.iv b.iv) e in
    let src = eqb-true a.src b.src (and_first (eqb a.src b.src) (eqb a.seq b.seq && eqb a.iv b.iv) e) in
    let seq = eqb-true a.seq b.seq (and_first (eqb a.seq b.seq) (eqb a.iv b.iv) pair) in
    let iv = eqb-true a.iv b.iv (and_second (eqb a.seq b.seq) (eqb a.iv b.iv) pair) in
    ap₂ (λ (s q : ℕ). record { src = s; seq = q; iv = a.iv }) src seq ∙ ap (λ (i : ℕ). record { src = b.src; seq = b.seq; iv = i }) iv

abbrev entries_keyed : Keyed Seen Seen
entries_keyed =
    record {
      key = λ e. e;
      same = same_seen;
      none = λ e. eqb e.src 0;
      same_told = same_told;
      same_self = λ a. rw (eq-eqb a.src a.src refl, eq-eqb a.seq a.seq refl, eq-eqb a.iv a.iv refl) refl;
    }

-- ---- what is seen stands at a place
module _ (c : Cache) (k : Header) where
  pub seen_at : (j : ℕ) → j < cache_entries → get_or c.entries j no_seen ≡ seen_of k → seen c k ≡ true
  unfolding seen
  seen_at j low e =
      let upto = place_upto entries_keyed no_seen c.entries (seen_of k) j e in
      lt-ltb (place entries_keyed no_seen c.entries (seen_of k)) cache_entries (omega arith)

  pub seen_place : length c.entries ≡ cache_entries → seen c k ≡ true → (j : ℕ) × (j < cache_entries) × (get_or c.entries j no_seen ≡ seen_of k)
  unfolding seen
  seen_place long e =
      let j = place entries_keyed no_seen c.entries (seen_of k) in
      let low = ltb-true j cache_entries e in
      (j, low, found_key entries_keyed no_seen c.entries (seen_of k) (omega arith))

-- ---- an entry more
module _ (c : Cache) (h : Header) where
  pub length_remembered : length (remembered c h).entries ≡ length c.entries
  unfolding remembered
  length_remembered = length-set c.entries (c.next % cache_entries) (seen_of h)

  -- what holds of each place's source, and of its own
  pub each_remembered :
      (P : ℕ → Type 0) → P h.src → ((i : ℕ) → P (get_or c.entries i no_seen).src) → (i : ℕ) → P (get_or (remembered c h).entries i no_seen).src
  unfolding remembered
  each_remembered P = each_set (λ (e : Seen). P e.src) no_seen c.entries (c.next % cache_entries) (seen_of h)

  module _ (long : length c.entries ≡ cache_entries) where
    -- what is seen with one entry more is the new one, or was seen before
    pub seen_or_new : (k : Header) → seen (remembered c h) k ≡ true → (seen c k ≡ true) ⊎ (seen_of k ≡ seen_of h)
    unfolding remembered
    seen_or_new k e =
        let p = c.next % cache_entries in
        let there = seen_place (remembered c h) k (length_remembered ∙ long) e in
        let j = there.0 in
        by_test (eqb j p)
        (λ t.
        let q = eqb-true j p t in
        let here : get_or (remembered c h).entries j no_seen ≡ seen_of h = rw q (get_or-set_same c.entries p (seen_of h) no_seen (omega arith)) in
        inr (sym there.2 ∙ here))
        (λ t. inl (seen_at c k j there.1 (sym (get_or-set_other c.entries p j (seen_of h) no_seen (eqb-false j p t)) ∙ there.2)))

    -- the new one is seen
    pub seen_new : (k : Header) → seen_of k ≡ seen_of h → seen (remembered c h) k ≡ true
    unfolding remembered
    seen_new k e =
        let p = c.next % cache_entries in
        seen_at (remembered c h) k p (omega arith) (get_or-set_same c.entries p (seen_of h) no_seen (omega arith) ∙ sym e)

-- an empty one has seen nothing of a source
pub seen_none : (h : Header) → (h.src ≡ 0 → ⊥) → seen no_cache h ≡ false
seen_none h z =
    by_test (seen no_cache h)
    (λ t.
    let there = seen_place no_cache h (length-replicate cache_entries no_seen) t in
    absurd (z (ap (λ (e : Seen). e.src) (sym there.2 ∙ get_or-replicate cache_entries there.0 no_seen no_seen there.1))))
    (λ t. t)

-- ---- from place n on, and then its front: what stands at a place
pub rotated :
    {A : Type 0} (d : A) (l : List A) (n i : ℕ) → length l ≡ cache_entries → n < cache_entries → i < cache_entries → get_or (drop n l ++ take n l) i d ≡ get_or l ((n + i) % cache_entries) d
rotated d l n i e hn hi =
    let back : length (drop n l) ≡ cache_entries - n = length-drop n l ∙ ap (λ (k : ℕ). k - n) e in
    by_test (ltb (n + i) cache_entries)
    (λ t.
    let low : n + i < cache_entries = ltb-true (n + i) cache_entries t in
    let same : n + i ≡ (n + i) % cache_entries = omega arith in
    get_or-append (drop n l) (take n l) d i (omega arith) ∙ get_or-drop n l i d ∙ ap (λ (k : ℕ). get_or l k d) same)
    (λ t.
    let high : cache_entries ≤ n + i = ltb-false (n + i) cache_entries t in
    let k = n + i - cache_entries in
    let place : i ≡ length (drop n l) + k = omega arith in
    let same : k ≡ (n + i) % cache_entries = omega arith in
    ap (λ (j : ℕ). get_or (drop n l ++ take n l) j d) place
    ∙ get_or-append-add (drop n l) (take n l) k d ∙ get_or-take n l k d (omega arith) ∙ ap (λ (j : ℕ). get_or l j d) same)

pub length_rotated : {A : Type 0} (l : List A) (n : ℕ) → n ≤ length l → length (drop n l ++ take n l) ≡ length l
length_rotated l n h = simp (length-append, length-drop, length-take) (omega arith)
