-- A list of PDUs, PDU by PDU: the one whose length stands at a place, and those behind it. So what was written is read back. Assumes nothing.
--   pdus_none, pdus_split   nothing is left, or a PDU and what is behind it
--   pdus_most               how many there are
--   list_reads_back         what was written is read back
use mathlib.Core.List.{List, [], ◌∷◌}
use mathlib.Core.Path.{◌≡◌, refl, sym, ap, ap₂, ◌∙◌}
use Prim.Native.Nat.{ℕ, zero, suc, ◌≤◌, min}
use native.Mathlib.Omega.{arith}
use borrow.Author.Tests.{ltb-true, ltb-false}
use lib.Dec.{ltb}
use lib.ListN.{length, take, drop, length-append, length-drop, drop_of_length-le}
use lib.Seq.{take_all, take-append_seam, drop-append_seam}
use Rattle.common.proofs.Tests.{by_test}
use Rattle.transport.specs.Listed.{cut, pdus, written, ListReadsBack}

-- as many as there are octets are enough
cut_same : (j k : ℕ) (l : List ℕ) → length l ≤ j → length l ≤ k → cut j l ≡ cut k l
unfolding cut
cut_same zero zero l hj hk = refl
cut_same zero (suc k) [] hj hk = refl
cut_same zero (suc k) (m ∷ l) hj hk = absurd (omega arith)
cut_same (suc j) zero [] hj hk = refl
cut_same (suc j) zero (m ∷ l) hj hk = absurd (omega arith)
cut_same (suc j) (suc k) [] hj hk = refl
cut_same (suc j) (suc k) (m ∷ l) hj hk =
    let e = length-drop m l in
    ap (λ (x : List (List ℕ)). take m l ∷ x) (cut_same j k (drop m l) (omega arith) (omega arith))

pub pdus_none : (list : List ℕ) → length list ≡ 0 → pdus list ≡ []
unfolding pdus cut
pdus_none [] h = refl
pdus_none (m ∷ l) h = absurd (omega arith)

pdus_first : (m : ℕ) (l : List ℕ) → pdus (m ∷ l) ≡ take m l ∷ pdus (drop m l)
unfolding pdus cut
pdus_first m l = ap (λ (x : List (List ℕ)). take m l ∷ x) (cut_same (length l) (length (drop m l)) (drop m l) (omega (arith, length-drop m l)) (omega arith))

-- a length counts as far as there are octets
short_take : (m : ℕ) (l : List ℕ) → take (min m (length l)) l ≡ take m l
short_take m l =
    by_test (ltb (length l) m)
    (λ t. let over = ltb-true (length l) m t in take_all (min m (length l)) l (omega arith) ∙ sym (take_all m l (omega arith)))
    (λ t. let within = ltb-false (length l) m t in let e : min m (length l) ≡ m = omega arith in rw e refl)

short_drop : (m : ℕ) (l : List ℕ) → drop (min m (length l)) l ≡ drop m l
short_drop m l =
    by_test (ltb (length l) m)
    (λ t. let over = ltb-true (length l) m t in drop_of_length-le l {i = min m (length l)} (omega arith) ∙ sym (drop_of_length-le l {i = m} (omega arith)))
    (λ t. let within = ltb-false (length l) m t in let e : min m (length l) ≡ m = omega arith in rw e refl)

pub pdus_split :
    {list behind front back : List ℕ} {m n : ℕ} → list ≡ m ∷ behind → n ≡ min m (length behind) → front ≡ take n behind → back ≡ drop n behind
    → pdus list ≡ front ∷ pdus back
pdus_split {behind = behind} {m = m} el en ef eb = rw (el, ef, eb, en, short_take m behind, short_drop m behind) (pdus_first m behind)

-- no list has more PDUs than octets
cut_most : (n : ℕ) (l : List ℕ) → length (cut n l) ≤ n
unfolding cut
cut_most zero l = omega arith
cut_most (suc n) [] = omega arith
cut_most (suc n) (m ∷ l) = let h = cut_most n (drop m l) in omega arith

pub pdus_most : (list : List ℕ) → length (pdus list) ≤ length list
unfolding pdus
pdus_most list = cut_most (length list) list

-- ---- what was written
written_from : (n : ℕ) (l : List (List ℕ)) → length (written l) ≤ n → cut n (written l) ≡ l
unfolding cut written
written_from zero [] h = refl
written_from zero (p ∷ l) h = absurd (omega arith)
written_from (suc n) [] h = refl
written_from (suc n) (p ∷ l) h =
    let e = length-append p (written l) in
    ap₂ ◌∷◌ (take-append_seam p (written l)) (ap (cut n) (drop-append_seam p (written l)) ∙ written_from n l (omega arith))

pub list_reads_back : ListReadsBack
unfolding pdus
list_reads_back l = written_from (length (written l)) l (omega arith)
