-- The search of the candidates from the code's steps: a key is passed, tried in vain, or opens the PDU, and past the last key none opens it:
-- `Searching`. That there is a candidate at all is told from the NIDs alone: `Passed`, `no_candidate`, `some_candidate`; and from the trials.
-- Assumes nothing.
use mathlib.Core.Bool.{Bool, true, false}
use mathlib.Core.List.{List}
use mathlib.Core.Path.{◌≡◌, refl, sym, ap, ◌∙◌}
use Prim.Native.Nat.{ℕ, ◌+◌, ◌≤◌, ◌<◌, min}
use native.Mathlib.Omega.{arith}
use borrow.Author.Tests.{eq-eqb, ne_eqb}
use lib.Dec.{eqb}
use lib.ListN.{length, get_or, drop}
use Rattle.std.specs.Prelude.{Option, Some, None, is_some}
use Rattle.network.specs.declared.header.Header.{Header}
use Rattle.common.specs.Search.{picked}
use Rattle.common.specs.Trials.{Outcome}
use Rattle.common.proofs.Picked.{places, length_places, place_at, picked_end, picked_skip, picked_next}
use Rattle.common.proofs.Trials.{Visited, visited_start, visited_pass, visited_tried, visited_opens, visited_end, tries_each}
use Rattle.keys.specs.declared.NetworkKeys.{NetworkKeys}
use Rattle.network.specs.Candidates.{network_key_places, key_at, candidates, opens, found_by, searched}
use Rattle.network.specs.Trial.{tried}

some_not : (t : Option Header) → ((x : Header) → t ≡ Some x → ⊥) → is_some t ≡ false
some_not None f = refl
some_not (Some x) f = absurd (f x refl)

module _ (keys : List NetworkKeys) (count nid : ℕ) where
  -- whether the key at a place is a candidate
  abbrev pub has_nid : ℕ → Bool
  has_nid i = eqb (key_at keys i).nid nid

  pub candidates_are : candidates keys count nid ≡ picked has_nid (places (min count network_key_places))
  unfolding candidates
  candidates_are = refl

  -- ---- whether there is a candidate, told from the NIDs alone
  -- the keys before place i are passed, and none of them is a candidate
  pub record Passed (i : ℕ) : Type 0 where
    pub within : i ≤ min count network_key_places
    pub others : candidates keys count nid ≡ picked has_nid (drop i (places (min count network_key_places)))

  pub none_passed : Passed 0
  none_passed = record { within = omega arith; others = candidates_are }

  module _ {i : ℕ} (s : Passed i) where
    -- past the last key
    pub no_candidate : min count network_key_places ≤ i → true ≡ eqb (length (candidates keys count nid)) 0
    no_candidate h =
        let e = s.others ∙ picked_end has_nid (places (min count network_key_places)) i (omega (arith, length_places (min count network_key_places))) in
        sym (eq-eqb _ _ (ap length e))

    module _ (h : i < min count network_key_places) where
      there : i < length (places (min count network_key_places))
      there = omega (arith, length_places (min count network_key_places))

      here : has_nid (get_or (places (min count network_key_places)) i 0) ≡ has_nid i
      here = ap has_nid (place_at (min count network_key_places) i h)

      -- the key at i has another NID
      pub nid_passed : ((key_at keys i).nid ≡ nid → ⊥) → Passed (i + 1)
      nid_passed f =
          record { within = omega arith; others = s.others ∙ picked_skip has_nid (places (min count network_key_places)) i 0 there (here ∙ ne_eqb _ _ f) }

      -- the key at i has that NID
      pub some_candidate : (key_at keys i).nid ≡ nid → false ≡ eqb (length (candidates keys count nid)) 0
      some_candidate c =
          let e = s.others ∙ picked_next has_nid (places (min count network_key_places)) i 0 there (here ∙ eq-eqb _ _ c) in
          let n : length (candidates keys count nid) ≡ 0 → ⊥ = λ z. omega (arith, ap length e) in
          sym (ne_eqb _ _ n)

  -- ---- the candidates tried
  module _ (iv : ℕ) (pdu : List ℕ) where
    -- the keys before place i are done with, n of them were tried, and none of those opens the PDU
    abbrev pub Searching : ℕ → ℕ → Type 0
    Searching i n = Visited has_nid (opens keys iv pdu) (min count network_key_places) i n

    pub no_key_yet : Searching 0 0
    no_key_yet = visited_start has_nid (opens keys iv pdu) (min count network_key_places)

    module _ {i n : ℕ} (s : Searching i n) where
      -- past the last key
      pub no_key_opens_law : min count network_key_places ≤ i → record { trials = n; opened = None } ≡ searched keys count nid iv pdu
      unfolding searched
      no_key_opens_law h = rw (candidates_are, visited_end has_nid (opens keys iv pdu) (min count network_key_places) s h)

      module _ (h : i < min count network_key_places) where
        -- the key at i has another NID
        pub key_passed : ((key_at keys i).nid ≡ nid → ⊥) → Searching (i + 1) n
        key_passed f = visited_pass has_nid (opens keys iv pdu) (min count network_key_places) s h (ne_eqb _ _ f)

        -- it is a candidate
        module _ (c : (key_at keys i).nid ≡ nid) {t : Option Header} (e : t ≡ tried (key_at keys i) i iv pdu) where
          verdict : opens keys iv pdu i ≡ is_some t
          unfolding opens
          verdict = ap is_some (sym e)

          pub key_tried : ((x : Header) → t ≡ Some x → ⊥) → Searching (i + 1) (n + 1)
          key_tried f = visited_tried has_nid (opens keys iv pdu) (min count network_key_places) s h (eq-eqb _ _ c) (verdict ∙ some_not t f)

          pub key_opens : {x : Header} → t ≡ Some x → record { trials = n + 1; opened = Some x } ≡ searched keys count nid iv pdu
          unfolding searched
          key_opens f =
              rw (candidates_are, visited_opens has_nid (opens keys iv pdu) (min count network_key_places) s h (eq-eqb _ _ c) (verdict ∙ ap is_some f), ← e, f)

-- ---- no trials are made exactly where there is no candidate
module _ (keys : List NetworkKeys) (count nid iv : ℕ) (pdu : List ℕ) where
  abbrev trials : Outcome ℕ → ℕ
  trials t = (found_by keys iv pdu t).trials

  pub trials_none : length (candidates keys count nid) ≡ 0 → (searched keys count nid iv pdu).trials ≡ 0
  unfolding searched
  trials_none e =
      tries_each (opens keys iv pdu) 0 (λ t. trials t ≡ 0) (candidates keys count nid) (λ k o. absurd (omega (arith, o.within))) (λ _. e)

  pub trials_some : (searched keys count nid iv pdu).trials ≡ 0 → length (candidates keys count nid) ≡ 0
  unfolding searched
  trials_some =
      tries_each (opens keys iv pdu) 0 (λ t. trials t ≡ 0 → length (candidates keys count nid) ≡ 0) (candidates keys count nid)
      (λ k o e. absurd (omega arith)) (λ _ e. e)
