-- Hex digits and pairs: the rules of a digit's value by its range, of the pairs in front, and of what a text reads as.
-- Assumes nothing.
use mathlib.Core.Path.{◌≡◌, refl, sym, ap, ap₂, ◌∙◌}
use mathlib.Core.Bool.{Bool, true, false}
use mathlib.Core.List.{List, [], ◌∷◌, ◌++◌, append-nil, append_assoc}
use Prim.Native.Nat.{ℕ, ◌+◌, ◌≤◌, ◌<◌}
use native.Mathlib.Numerals.{add-one}
use native.Mathlib.Omega.{arith}
use borrow.Author.Tests.{eq-eqb, ne_eqb}
use lib.Dec.{eqb}
use lib.ListN.{length, get_or, take, drop, set, take-append-drop}
use lib.Seq.{drop-cons, drop-drop, take-suc, take-suc-set, drop-set-lt, length-take-le}
use Rattle.std.proofs.lemmas.Grind.{common_steps}
use Rattle.std.specs.Prelude.{Option, Some}
use Rattle.io.specs.Digits.{last_digits}
use Rattle.common.specs.Lent.{lent}
use Rattle.text.specs.Hex.{hex_value, with_pair, leading, reading_pairs, pairs}
use Rattle.text.proofs.FieldLaws.{drop_past}

-- a digit's value fits four bits
pub digit_most : (d v : ℕ) → Some v ≡ hex_value d → v ≤ 15
unfolding hex_value
digit_most d v e = grind (arith, common_steps)

-- ---- the pairs from i on
module _
    (text : List ℕ) (i : ℕ) (within : i + i + 1 < length text) (h l : Option ℕ) (eh : h ≡ hex_value (get_or text (i + i) 0))
    (el : l ≡ hex_value (get_or text (i + i + 1) 0)) where
  pub pair_next : leading (drop (i + i) text) ≡ with_pair h l (leading (drop (i + 1 + (i + 1)) text))
  unfolding leading
  pair_next =
      let two : drop (i + i) text ≡ get_or text (i + i) 0 ∷ get_or text (i + i + 1) 0 ∷ drop (i + i + 1 + 1) text =
      drop-cons text (i + i) 0 (omega arith)
      ∙ ap (λ (r : List ℕ). get_or text (i + i) 0 ∷ r)
      (ap (λ (k : ℕ). drop k text) (sym (add-one (i + i)))
      ∙ drop-cons text (i + i + 1) 0 within ∙ ap (λ (k : ℕ). get_or text (i + i + 1) 0 ∷ drop k text) (sym (add-one (i + i + 1)))) in
      let e : i + i + 1 + 1 ≡ i + 1 + (i + 1) = omega arith in
      rw (two, ← eh, ← el) (ap (λ (k : ℕ). with_pair h l (leading (drop k text))) e)

-- ---- a loop that reads pair after pair: before pair i the first i octets are read, and the rest of the buffer is what it was
abbrev pub PairsRead : List ℕ → List ℕ → List ℕ → ℕ → Type 0
PairsRead text out₀ out i = (take i out ++ leading (drop (i + i) text) ≡ leading text) × (drop i out ≡ drop i out₀)

module _ (text out₀ out : List ℕ) (i : ℕ) (p : PairsRead text out₀ out i) where
  pub pairs_on :
      (v : ℕ) → i < length out → leading (drop (i + i) text) ≡ v ∷ leading (drop (i + 1 + (i + 1)) text) → PairsRead text out₀ (set out i v) (i + 1)
  pairs_on v h e = (
    ap (λ (k : ℕ). take k (set out i v) ++ leading (drop (i + 1 + (i + 1)) text)) (add-one i)
        ∙ ap (λ (l : List ℕ). l ++ leading (drop (i + 1 + (i + 1)) text)) (take-suc-set out i v h)
        ∙ append_assoc (take i out) (v ∷ []) (leading (drop (i + 1 + (i + 1)) text)) ∙ ap (λ (l : List ℕ). take i out ++ l) (sym e) ∙ p.0,
    drop-set-lt (i + 1) out i v (omega arith)
        ∙ sym (drop-drop 1 i out) ∙ ap (drop 1) p.1 ∙ drop-drop 1 i out₀,
  )

  -- the loop ends where no pair is left
  pub pairs_end : (n : ℕ) → i ≤ length out → leading (drop (i + i) text) ≡ [] → lent (eqb i n) out ≡ reading_pairs text n out₀
  unfolding reading_pairs
  pairs_end n h e =
      let read : take i out ≡ leading text = sym (append-nil (take i out)) ∙ ap (λ (l : List ℕ). take i out ++ l) (sym e) ∙ p.0 in
      let many : i ≡ length (leading text) = sym (length-take-le i out h) ∙ ap length read in
      ap₂ lent (ap (λ (k : ℕ). eqb k n) many)
      (sym (take-append-drop i out) ∙ ap₂ ◌++◌ read (p.1 ∙ ap (λ (k : ℕ). drop k out₀) many))

  -- before pair n; or all n were read
  pub pairs_short : (n : ℕ) → i < n → n ≤ length out → leading (drop (i + i) text) ≡ [] → lent false out ≡ reading_pairs text n out₀
  pairs_short n h k e = ap (λ (b : Bool). lent b out) (sym (ne_eqb i n (λ q. omega arith))) ∙ pairs_end n (omega arith) e

  pub pairs_all : (n : ℕ) → i ≡ n → n ≤ length out → length text ≡ n + n → lent true out ≡ reading_pairs text n out₀
  unfolding leading
  pairs_all n h k e = ap (λ (b : Bool). lent b out) (sym (eq-eqb i n h)) ∙ pairs_end n (omega arith) (rw (drop_past text (i + i) (omega arith)))

-- ---- octets, written
pairs_append : (a b : List ℕ) → pairs (a ++ b) ≡ pairs a ++ pairs b
unfolding pairs
pairs_append [] b = refl
pairs_append (o ∷ a) b = ap (λ (l : List ℕ). last_digits 16 2 o ++ l) (pairs_append a b) ∙ sym (append_assoc (last_digits 16 2 o) (pairs a) (pairs b))

-- with one octet more
pub pairs_more : (l : List ℕ) (i : ℕ) → i < length l → pairs (take i l) ++ last_digits 16 2 (get_or l i 0) ≡ pairs (take (i + 1) l)
unfolding pairs
pairs_more l i h =
    sym
    (ap (λ (k : ℕ). pairs (take k l)) (add-one i)
    ∙ ap pairs (take-suc l i 0 h)
    ∙ pairs_append (take i l) (get_or l i 0 ∷ []) ∙ ap (λ (m : List ℕ). pairs (take i l) ++ m) (append-nil (last_digits 16 2 (get_or l i 0))))

pub no_pairs : pairs [] ≡ []
unfolding pairs
no_pairs = refl
