-- The SEQs of a line, read number by number: what is left to read behind those that were read, and how that goes on.
-- Assumes nothing.
use mathlib.Core.Path.{◌≡◌, refl, sym, ap, ap₂, ◌∙◌}
use mathlib.Core.List.{List, [], ◌∷◌, ◌++◌, append-nil, append_assoc}
use Prim.Native.Nat.{ℕ, ◌+◌, ◌≤◌, ◌<◌, min}
use native.Mathlib.Numerals.{add-one}
use native.Mathlib.Omega.{arith}
use borrow.Author.Tests.{eqb-true, eqb-false, ltb-true, ltb-false}
use lib.Dec.{eqb, ltb}
use lib.ListN.{length, get_or, drop, set, replicate, length-append, length-set, get_or-append, get_or-eq_default}
use lib.Seq.{drop-cons, get_or-set_same, get_or-set_other, get_or_at}
use Rattle.std.specs.Prelude.{Option, Some, None, option_map}
use Rattle.std.proofs.lemmas.List.{drop_all}
use Rattle.common.specs.Lists.{padded}
use Rattle.common.proofs.Lists.{tab_is, length_tab, get_d_tab}
use Rattle.common.proofs.Tests.{by_test}
use Rattle.text.specs.Number.{number_of}
use Rattle.node.specs.Addresses.{element_places}
use Rattle.node.specs.Setup.{counted}
use Rattle.commands.specs.Request.{with_field}
use Rattle.commands.specs.declared.setting.Sequences.{Sequences}
use Rattle.commands.specs.Setting.{one_more, numbers_of, past_elements, sequences, sequences_of}

-- so many numbers were read, and stand in the list: the texts that are left
unfoldable pub sequences_from : ℕ → List ℕ → List (List ℕ) → Option Sequences
sequences_from count next [] = Some (record { count = count; next = next })
sequences_from count next (text ∷ texts) =
    with_field (number_of text) None (λ n. sequences_from (counted element_places count) (set next count n) texts)

-- ---- one more, as far as is counted
counted_past : (k : ℕ) → counted element_places (min k past_elements) ≡ min (k + 1) past_elements
counted_past k =
    by_test (ltb element_places (min k past_elements)) (λ t. let h : element_places < min k past_elements = ltb-true element_places (min k past_elements) t in rw t (omega arith))
    (λ t. let h : min k past_elements ≤ element_places = ltb-false element_places (min k past_elements) t in rw t (omega arith))

-- ---- a number goes to its place, where there is one
module _ (l : List ℕ) (n : ℕ) where
  more_at : (i : ℕ) → i < element_places → get_or (set (padded element_places l) (min (length l) past_elements) n) i 0 ≡ get_or (l ++ n ∷ []) i 0
  more_at i h =
      let k = min (length l) past_elements in
      let long : length (padded element_places l) ≡ element_places = length_tab (λ j. get_or l j 0) element_places in
      by_test (eqb i (length l))
      (λ t.
      let e : i ≡ length l = eqb-true i (length l) t in
      let same : k ≡ i = omega arith in
      ap (λ (j : ℕ). get_or (set (padded element_places l) j n) i 0) same
      ∙ get_or-set_same (padded element_places l) i n 0 (omega arith) ∙ sym (get_or_at l n [] 0 i (sym e)))
      (λ t.
      let d : i ≡ length l → ⊥ = eqb-false i (length l) t in
      get_or-set_other (padded element_places l) k i n 0 (λ q. d (omega arith))
      ∙ get_d_tab (λ j. get_or l j 0) element_places i 0 h
      ∙ by_test (ltb i (length l)) (λ u. sym (get_or-append l (n ∷ []) 0 i (ltb-true i (length l) u)))
      (λ u.
      let past : length l ≤ i = ltb-false i (length l) u in
      let end : length (l ++ n ∷ []) ≤ i = simp length-append (let f : length l ≡ i → ⊥ = (λ q. d (sym q)) in omega arith) in
      get_or-eq_default l 0 past ∙ sym (get_or-eq_default (l ++ n ∷ []) 0 end)))

  padded_more : set (padded element_places l) (min (length l) past_elements) n ≡ padded element_places (l ++ n ∷ [])
  padded_more =
      tab_is (λ i. get_or (l ++ n ∷ []) i 0) 0 element_places (set (padded element_places l) (min (length l) past_elements) n)
      (length-set (padded element_places l) (min (length l) past_elements) n ∙ length_tab (λ j. get_or l j 0) element_places) more_at

-- ---- the texts that are left, behind the numbers that were read
abbrev ReadFrom : List (List ℕ) → List ℕ → Type 0
ReadFrom texts l =
    sequences_from (min (length l) past_elements) (padded element_places l) texts ≡ option_map (λ m. sequences (l ++ m)) (numbers_of texts)

behind_one : (l : List ℕ) (n : ℕ) (rest : Option (List ℕ)) → option_map (λ m. sequences ((l ++ n ∷ []) ++ m)) rest ≡ option_map (λ m. sequences (l ++ m)) (option_map (λ m. n ∷ m) rest)
behind_one l n None = refl
behind_one l n (Some m) = ap (λ k. Some (sequences k)) (append_assoc l (n ∷ []) m)

read_step :
    (a : Option ℕ) (texts : List (List ℕ)) (l : List ℕ) → ((m : List ℕ) → ReadFrom texts m)
    → with_field a None (λ n. sequences_from (counted element_places (min (length l) past_elements)) (set (padded element_places l) (min (length l) past_elements) n) texts)
    ≡ option_map (λ m. sequences (l ++ m)) (one_more a (numbers_of texts))
read_step None texts l p = refl
read_step (Some n) texts l p =
    let long : length (l ++ n ∷ []) ≡ length l + 1 = length-append l (n ∷ []) in
    let one : counted element_places (min (length l) past_elements) ≡ min (length (l ++ n ∷ [])) past_elements = counted_past (length l) ∙ ap (λ (k : ℕ). min k past_elements) (sym long) in
    ap₂ (λ (k : ℕ) (m : List ℕ). sequences_from k m texts) one (padded_more l n)
    ∙ p (l ++ n ∷ [])
    ∙ behind_one l n (numbers_of texts)

read_from : (texts : List (List ℕ)) (l : List ℕ) → ReadFrom texts l
unfolding sequences_from
read_from [] l = ap (λ m. Some (sequences m)) (sym (append-nil l))
read_from (text ∷ texts) l = read_step (number_of text) texts l (read_from texts)

-- at the start none was read
pub read_start : (texts : List (List ℕ)) → sequences_of texts ≡ sequences_from 0 (replicate element_places 0) texts
unfolding sequences_of
read_start texts = sym (read_from texts [])

-- ---- text number k: it is a number, or is none; or there is no more
module _ (texts : List (List ℕ)) (k count : ℕ) (next : List ℕ) where
  module _ (text : List ℕ) (h : (k < length texts) × (text ≡ get_or texts k text)) where
    pub read_on :
        (n : ℕ) → Some n ≡ number_of text
        → sequences_from count next (drop k texts) ≡ sequences_from (counted element_places count) (set next count n) (drop (k + 1) texts)
    unfolding sequences_from
    read_on n r = rw (add-one k, drop-cons texts k text h.0, ← h.1, ← r)

    pub read_wrong : None ≡ number_of text → None ≡ sequences_from count next (drop k texts)
    unfolding sequences_from
    read_wrong r = rw (drop-cons texts k text h.0, ← h.1, ← r)

  pub read_end : length texts ≤ k → Some (record { count = count; next = next }) ≡ sequences_from count next (drop k texts)
  unfolding sequences_from
  read_end h = rw (drop_all k texts h)
