-- A loop that writes the text of one element behind the other: how it begins and goes on; and the text of what has no place.
-- Assumes nothing.
use mathlib.Core.Path.{◌≡◌, refl, sym, ap, ◌∙◌}
use mathlib.Core.List.{List, [], ◌∷◌, ◌++◌, append_assoc, append-nil}
use Prim.Native.Nat.{ℕ, zero, suc, ◌+◌, ◌<◌}
use native.Mathlib.Nat.{add-zero, zero-add}
use native.Mathlib.Numerals.{add-one}
use native.Mathlib.Omega.{arith}
use lib.ListN.{length, get_or, take}
use Rattle.text.specs.declared.writer.Writer.{Writer}
use Rattle.text.specs.Writer.{writing}
use Rattle.text.proofs.WriterLaws.{writing_both, writing_none}
use Rattle.answers.specs.Looking.{placed_text}

module _ {A : Type 0} (f : ℕ → A → List ℕ) where
  -- one element more
  placed_more :
      (d : A) (k : ℕ) (l : List A) (i : ℕ) → i < length l → placed_text f k (take i l) ++ f (k + i) (get_or l i d) ≡ placed_text f k (take (suc i) l)
  unfolding placed_text
  placed_more d k [] i h = absurd (omega arith)
  placed_more d k (x ∷ l) zero h = ap (λ (n : ℕ). f n x) (add-zero k) ∙ sym (append-nil (f k x))
  placed_more d k (x ∷ l) (suc i) h =
      append_assoc (f k x) (placed_text f (suc k) (take i l)) (f (k + suc i) (get_or l i d))
      ∙ ap (λ (m : List ℕ). f k x ++ m)
      (ap (λ (n : ℕ). placed_text f (suc k) (take i l) ++ f n (get_or l i d)) (omega arith) ∙ placed_more d (suc k) l i (omega arith))

  -- the loop begins with none
  pub placed_begun : (w : Writer) → w ≡ writing (placed_text f 0 []) w
  unfolding placed_text
  placed_begun w = sym (writing_none w)

  -- it goes on with one element more
  pub placed_on :
      (l : List A) (d : A) (i : ℕ) (w₀ w w' : Writer) → i < length l → w ≡ writing (placed_text f 0 (take i l)) w₀ → w' ≡ writing (f i (get_or l i d)) w
      → w' ≡ writing (placed_text f 0 (take (i + 1) l)) w₀
  placed_on l d i w₀ w w' h p e =
      e ∙ ap (writing (f i (get_or l i d))) p ∙ writing_both (placed_text f 0 (take i l)) (f i (get_or l i d)) w₀
      ∙ ap (λ (t : List ℕ). writing t w₀)
      (ap (λ (n : ℕ). placed_text f 0 (take i l) ++ f n (get_or l i d)) (sym (zero-add i))
      ∙ placed_more d 0 l i h ∙ ap (λ (n : ℕ). placed_text f 0 (take n l)) (sym (add-one i)))

-- ---- where the place says nothing
module _ {A : Type 0} (g : A → List ℕ) where
  placed_anywhere : (l : List A) (k j : ℕ) → placed_text (λ i x. g x) j l ≡ placed_text (λ i x. g x) k l
  unfolding placed_text
  placed_anywhere [] k j = refl
  placed_anywhere (x ∷ l) k j = ap (λ (t : List ℕ). g x ++ t) (placed_anywhere l (suc k) (suc j))

  -- the text of two lists is that of one and then the other
  pub placed_apart :
      (a b : List A) (k j : ℕ) → placed_text (λ i x. g x) k a ++ placed_text (λ i x. g x) j b ≡ placed_text (λ i x. g x) k (a ++ b)
  unfolding placed_text
  placed_apart [] b k j = placed_anywhere b k j
  placed_apart (x ∷ a) b k j =
      append_assoc (g x) (placed_text (λ i x. g x) (suc k) a) (placed_text (λ i x. g x) j b) ∙ ap (λ (t : List ℕ). g x ++ t) (placed_apart a b (suc k) j)
