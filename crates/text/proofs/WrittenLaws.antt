-- Text put behind text: octets copied into the buffer from `at` on are put there, and what is put behind what was put is put together.
-- Assumes nothing.
use mathlib.Core.Path.{◌≡◌, sym, ap, ap₂, ◌∙◌}
use mathlib.Core.List.{List, [], ◌++◌, append_assoc, append-nil}
use Prim.Native.Nat.{ℕ, ◌+◌, ◌-◌, ◌≤◌}
use native.Mathlib.Omega.{arith}
use borrow.Author.Tests.{ltb-true, ltb-false}
use lib.Dec.{ltb}
use lib.ListN.{length, take, drop, length-append, length-take, length-drop, take-append-drop}
use lib.Seq.{length-take-le, take_all, take-append-le, take-append-add, take-append_seam, drop-append-add, drop-length, drop-drop}
use Rattle.common.specs.Lent.{Lent, lent}
use Rattle.common.specs.Lists.{onto}
use Rattle.common.proofs.Tests.{by_test}
use Rattle.text.specs.Written.{written, putting}

-- what is written is no longer than the buffer
pub written_le : (s out : List ℕ) (at : ℕ) → length (written out at s) ≤ length out
written_le s out at = simp length-take (omega arith)

-- where the text ends already at the end of the buffer, it stays
pub put_full : (s out : List ℕ) (at : ℕ) → length out ≤ at → lent (length out) out ≡ putting s out at
unfolding putting
put_full s out at h =
    let same : written out at s ≡ out =
    ap (λ (l : List ℕ). take (length out) (l ++ s)) (take_all at out h) ∙ take-append_seam out s in
    sym
    (ap₂ lent (ap length same)
    (ap (λ (l : List ℕ). onto l out) same ∙ ap (λ (l : List ℕ). out ++ l) (drop-length out) ∙ append-nil out))

module _ (s out : List ℕ) (at : ℕ) (h : at ≤ length out) where
  -- what stands before `at`, and as much of s as there is room for
  pub written_is : written out at s ≡ take at out ++ take (length out - at) s
  written_is =
      let front : length (take at out) ≡ at = length-take-le at out h in
      let whole : length out ≡ length (take at out) + (length out - at) = omega arith in
      ap (λ (n : ℕ). take n (take at out ++ s)) whole ∙ take-append-add (take at out) s (length out - at)

  -- octets copied onto what lies from `at` on are put there
  pub put_copied :
      {y : List ℕ} (k r : ℕ) → k ≡ length out - at → y ≡ onto (take (length (take k (drop at out))) s) (take k (drop at out))
      → r ≡ at + length (take (length out - at) s) → lent r (take at out ++ (y ++ drop k (drop at out))) ≡ putting s out at
  unfolding putting
  put_copied {y} k r ek ey er =
      let d = drop at out in
      let n : length d ≡ length out - at = length-drop at out in
      let all : take k d ≡ d = take_all k d (omega arith) in
      let none : drop k d ≡ [] = ap (λ (j : ℕ). drop j d) (ek ∙ sym n) ∙ drop-length d in
      let part = take (length out - at) s in
      let copied : y ≡ onto part d =
      ey ∙ ap (λ (l : List ℕ). onto (take (length l) s) l) all ∙ ap (λ (j : ℕ). onto (take j s) d) n in
      let front : length (take at out) ≡ at = length-take-le at out h in
      let w = take at out ++ part in
      let long : length w ≡ at + length part = length-append (take at out) part ∙ ap (λ (j : ℕ). j + length part) front in
      ap₂ lent (er ∙ sym long ∙ ap length (sym written_is))
      (ap (λ (l : List ℕ). take at out ++ l) (ap₂ ◌++◌ copied none ∙ append-nil (onto part d))
      ∙ sym (append_assoc (take at out) part (drop (length part) d))
      ∙ ap (λ (l : List ℕ). w ++ l) (drop-drop (length part) at out ∙ ap (λ (j : ℕ). drop j out) (sym long))
      ∙ ap (λ (l : List ℕ). onto l out) (sym written_is))

-- the buffer keeps its length
pub put_length : (s out : List ℕ) (at r : ℕ) (o : List ℕ) → lent r o ≡ putting s out at → length o ≡ length out
unfolding putting
put_length s out at r o e =
    let room = written_le s out at in
    ap (λ (p : Lent ℕ). length p.buffer) e ∙ simp (length-append, length-drop) (omega arith)

-- a front cut twice is cut once
pub take_front : (n : ℕ) (x b : List ℕ) → take n (take n x ++ b) ≡ take n (x ++ b)
take_front n x b =
    by_test (ltb n (length x))
    (λ t.
    let le : n ≤ length x = omega (arith, ltb-true n (length x) t) in
    let l : length (take n x) ≡ n = length-take-le n x le in
    take-append-le n (take n x) b (omega arith) ∙ take_all n (take n x) (omega arith) ∙ sym (take-append-le n x b le))
    (λ t. ap (λ (l : List ℕ). take n (l ++ b)) (take_all n x (ltb-false n (length x) t)))

-- what is put behind a that was put is put together with a
pub put_then :
    (a b out : List ℕ) (at r1 r2 : ℕ) (o1 o2 : List ℕ) → lent r1 o1 ≡ putting a out at → lent r2 o2 ≡ putting b o1 r1
    → lent r2 o2 ≡ putting (a ++ b) out at
unfolding putting
put_then a b out at r1 r2 o1 o2 e1 e2 =
    let w = written out at a in
    let er : r1 ≡ length w = ap (λ (p : Lent ℕ). p.answer) e1 in
    let eo : o1 ≡ onto w out = ap (λ (p : Lent ℕ). p.buffer) e1 in
    let room : length w ≤ length out = written_le a out at in
    let lo : length o1 ≡ length out = put_length a out at r1 o1 e1 in
    let before : take r1 o1 ≡ w = ap₂ take er eo ∙ take-append_seam w (drop (length w) out) in
    let v = written o1 r1 b in
    let both : v ≡ written out at (a ++ b) =
    ap₂ (λ (n : ℕ) (l : List ℕ). take n (l ++ b)) lo before ∙ take_front (length out) (take at out ++ a) b
    ∙ ap (take (length out)) (append_assoc (take at out) a b) in
    let more : length v ≡ length w + (length v - length w) =
    omega (arith, ap length (ap₂ (λ (n : ℕ) (l : List ℕ). take n (l ++ b)) lo before), length-take (length out) (w ++ b), length-append w b) in
    let rest : drop (length v) o1 ≡ drop (length v) out =
    ap₂ drop more eo ∙ drop-append-add w (drop (length w) out) (length v - length w)
    ∙ drop-drop (length v - length w) (length w) out ∙ ap (λ (n : ℕ). drop n out) (sym more) in
    e2 ∙ ap (λ (l : List ℕ). lent (length v) (v ++ l)) rest ∙ ap (λ (l : List ℕ). lent (length l) (onto l out)) both

-- nothing put leaves the buffer as it is
pub put_nothing : (out : List ℕ) (at : ℕ) → at ≤ length out → lent at out ≡ putting [] out at
unfolding putting
put_nothing out at h =
    let front : length (take at out) ≡ at = length-take-le at out h in
    let same : written out at [] ≡ take at out =
    ap (take (length out)) (append-nil (take at out)) ∙ take_all (length out) (take at out) (omega arith) in
    sym
    (ap₂ lent (ap length same ∙ front)
    (ap (λ (l : List ℕ). onto l out) same ∙ ap (λ (n : ℕ). take at out ++ drop n out) front ∙ take-append-drop at out))

-- where the text ends is within the buffer
pub put_within : (s out : List ℕ) (at r : ℕ) (o : List ℕ) → lent r o ≡ putting s out at → r ≤ length o
unfolding putting
put_within s out at r o e = omega (arith, ap (λ (p : Lent ℕ). p.answer) e, put_length s out at r o e, written_le s out at)
