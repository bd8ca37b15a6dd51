-- A search for a mark, and the way behind the n-th space, octet by octet: what is left to find from i on, and how that goes on. The fields in order,
-- field by field: the first, and those behind the space that ends it.
-- Assumes nothing.
use mathlib.Core.Path.{◌≡◌, refl, sym, ap, ap₂, ◌∙◌}
use mathlib.Core.List.{List, [], ◌∷◌}
use Prim.Native.Nat.{ℕ, zero, suc, ◌+◌, ◌-◌, ◌≤◌, ◌<◌}
use native.Mathlib.Numerals.{add-one}
use native.Mathlib.Omega.{arith}
use borrow.Author.Tests.{eq-eqb, ne_eqb, eqb-true, eqb-false}
use lib.Dec.{eqb}
use lib.ListN.{length, get_or, take, drop, length-drop}
use lib.Seq.{drop-cons, drop-drop, get_or-drop}
use Rattle.std.specs.Prelude.{Bool, true, false, not, unwrap_or}
use Rattle.std.specs.List.{position, position_or_len, slice_split, onto_first}
use Rattle.std.proofs.lemmas.List.Sums.{prefix_len-le-length}
use Rattle.std.proofs.lemmas.Grind.{common_steps}
use Rattle.common.specs.Lists.{tab_from}
use Rattle.common.specs.Search.{first, picked}
use Rattle.common.proofs.Search.{first_passes}
use Rattle.common.proofs.Tests.{by_test}
use Rattle.text.specs.Field.{is, behind, field_of, fields}

-- nothing is left past the end
pub drop_past : (l : List ℕ) (i : ℕ) → length l ≤ i → drop i l ≡ []
drop_past [] zero h = refl
drop_past [] (suc i) h = refl
drop_past (x ∷ l) zero h = absurd (omega arith)
drop_past (x ∷ l) (suc i) h = drop_past l i (omega arith)

-- ---- the place of the first that passes, or the end, as std says it
first_is : (p : ℕ → Bool) (l : List ℕ) → first p l ≡ position_or_len p l
unfolding first
first_is p [] = refl
first_is p (x ∷ l) = by_test (p x) (λ t. rw t) (λ t. rw t (let rest : first p l ≡ position_or_len p l = first_is p l in omega arith))

pub place_or_end : (p : ℕ → Bool) (l : List ℕ) → unwrap_or (position p l) (length l) ≡ first p l
place_or_end p l = rw (first_is p l) (grind (arith, common_steps, prefix_len-le-length (λ x. not (p x)) l))

pub ruleset until_rules = (place_or_end, drop_past)

-- what is found before the end is the mark
pub mark_found : (mark from r : ℕ) (l : List ℕ) → r ≡ from + first (is mark) (drop from l) → r < length l → get_or l r 0 ≡ mark
mark_found mark from r l e h =
    let rest = drop from l in
    let k = first (is mark) rest in
    let short : k < length rest = simp length-drop (omega arith) in
    ap (λ (i : ℕ). get_or l i 0) e ∙ sym (get_or-drop from l k 0) ∙ eqb-true (get_or rest k 0) mark (first_passes (is mark) rest 0 short)

-- ---- behind so many spaces, from i on
pub behind_none : (n : ℕ) → behind n [] ≡ []
unfolding behind
behind_none zero = refl
behind_none (suc n) = refl

pub behind_first : (l : List ℕ) → behind 0 l ≡ l
unfolding behind
behind_first l = refl

pub behind_space :
    (l : List ℕ) (i n : ℕ) → i < length l → 0 < n → get_or l i 0 ≡ 32 → behind n (drop i l) ≡ behind (n - 1) (drop (i + 1) l)
unfolding behind
behind_space l i zero h more e = absurd (omega arith)
behind_space l i (suc n) h more e =
    rw (drop-cons l i 0 h, eq-eqb (get_or l i 0) 32 e, add-one i) (let e : n ≡ suc n - 1 = omega arith in ap (λ (k : ℕ). behind k (drop (suc i) l)) e)

pub behind_other :
    (l : List ℕ) (i n : ℕ) → i < length l → 0 < n → (get_or l i 0 ≡ 32 → ⊥) → behind n (drop i l) ≡ behind n (drop (i + 1) l)
unfolding behind
behind_other l i zero h more e = absurd (omega arith)
behind_other l i (suc n) h more e = rw (drop-cons l i 0 h, ne_eqb (get_or l i 0) 32 e, add-one i)

pub ruleset behind_rules = (behind_none, behind_first, behind_space, behind_other, drop_past)

-- ---- the fields in order: the first, and those behind each space
-- f from i + 1 on
tab_from_suc : {A : Type 0} (f g : ℕ → A) (i n : ℕ) → ((k : ℕ) → f (suc k) ≡ g k) → tab_from f (suc i) n ≡ tab_from g i n
tab_from_suc f g i zero p = refl
tab_from_suc f g i (suc n) p = ap₂ ◌∷◌ (p i) (tab_from_suc f g (suc i) n p)

-- the same of two functions that agree from there on
tab_from_ext : {A : Type 0} (f g : ℕ → A) (i n : ℕ) → ((k : ℕ) → f (suc k) ≡ g (suc k)) → tab_from f (suc i) n ≡ tab_from g (suc i) n
tab_from_ext f g i n p = tab_from_suc f (λ k. g (suc k)) i n p ∙ sym (tab_from_suc g (λ k. g (suc k)) i n (λ k. refl))

-- behind a space in front stand all fields of the rest
pub fields_space : (x : ℕ) (l : List ℕ) → x ≡ 32 → drop 1 (fields (x ∷ l)) ≡ fields l
unfolding fields field_of behind picked
fields_space x l e = rw (eq-eqb x 32 e) (tab_from_suc (λ n. field_of n (x ∷ l)) (λ n. field_of n l) 0 (suc (length (picked (is 32) l))) (λ k. rw (eq-eqb x 32 e)))

-- another octet belongs to the first field
pub fields_other : (x : ℕ) (l : List ℕ) → (x ≡ 32 → ⊥) → drop 1 (fields (x ∷ l)) ≡ drop 1 (fields l)
unfolding fields field_of behind picked
fields_other x l e = rw (ne_eqb x 32 e) (tab_from_ext (λ n. field_of n (x ∷ l)) (λ n. field_of n l) 0 (length (picked (is 32) l)) (λ k. rw (ne_eqb x 32 e)))

-- the first ends at the first space
fields_cut : (l : List ℕ) → fields l ≡ take (first (is 32) l) l ∷ drop 1 (fields l)
unfolding fields field_of behind
fields_cut l = refl

-- and the others stand from there on
pub fields_rest : (l : List ℕ) → drop 1 (fields l) ≡ drop 1 (fields (drop (first (is 32) l) l))
unfolding first
fields_rest [] = refl
fields_rest (x ∷ l) = by_test (eqb x 32) (λ t. rw t) (λ t. rw t (fields_other x l (eqb-false x 32 t) ∙ fields_rest l))

pub fields_first : (l : List ℕ) → fields l ≡ take (first (is 32) l) l ∷ drop 1 (fields (drop (first (is 32) l) l))
fields_first l = fields_cut l ∙ ap (λ (r : List (List ℕ)). take (first (is 32) l) l ∷ r) (fields_rest l)

-- behind the end there is none
pub fields_past : (l : List ℕ) (i : ℕ) → length l ≤ i → drop 1 (fields (drop i l)) ≡ []
unfolding fields picked
fields_past l i h = rw (drop_past l i h)

fields_none : [] ∷ [] ≡ fields []
unfolding fields field_of behind picked first
fields_none = refl

-- they are the parts between the spaces, as std cuts a list
fields_of_space : (x : ℕ) (l : List ℕ) → eqb x 32 ≡ true → fields (x ∷ l) ≡ [] ∷ fields l
unfolding first
fields_of_space x l t =
    let none : take (first (is 32) (x ∷ l)) (x ∷ l) ≡ [] = rw t in
    fields_cut (x ∷ l) ∙ ap₂ ◌∷◌ none (fields_space x l (eqb-true x 32 t))

fields_of_other : (x : ℕ) (l : List ℕ) → eqb x 32 ≡ false → fields (x ∷ l) ≡ onto_first x (fields l)
unfolding first
fields_of_other x l t =
    let more : take (first (is 32) (x ∷ l)) (x ∷ l) ≡ x ∷ take (first (is 32) l) l = rw t in
    fields_cut (x ∷ l) ∙ ap₂ ◌∷◌ more (fields_other x l (eqb-false x 32 t)) ∙ ap (onto_first x) (sym (fields_cut l))

pub fields_are_parts : (l : List ℕ) → slice_split (is 32) l ≡ fields l
fields_are_parts [] = fields_none
fields_are_parts (x ∷ l) =
    by_test (eqb x 32)
    (λ t. rw t (ap (λ (parts : List (List ℕ)). [] ∷ parts) (fields_are_parts l) ∙ sym (fields_of_space x l t)))
    (λ t. rw t (ap (onto_first x) (fields_are_parts l) ∙ sym (fields_of_other x l t)))

-- the first field is left out, and the next
fields_twice : (l : List ℕ) → drop 1 (drop 1 (fields l)) ≡ drop 1 (fields (behind 1 l))
unfolding behind
fields_twice [] = ap (drop 1) (fields_past [] 0 (omega arith)) ∙ sym (fields_past [] 0 (omega arith))
fields_twice (x ∷ l) =
    by_test (eqb x 32) (λ t. rw t (ap (drop 1) (fields_space x l (eqb-true x 32 t))))
    (λ t. rw t (ap (drop 1) (fields_other x l (eqb-false x 32 t)) ∙ fields_twice l))

-- those from number 2 on
pub fields_from_two : (l : List ℕ) → drop 2 (fields l) ≡ drop 1 (fields (behind 1 l))
fields_from_two l = sym (drop-drop 1 1 (fields l)) ∙ fields_twice l
