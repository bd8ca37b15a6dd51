-- A writer: what is written behind what was written is written together with it, and nothing written leaves it as it is; what it leaves is what
-- was put.
-- Assumes nothing.
use mathlib.Core.Path.{◌≡◌, refl, sym, ap, ◌∙◌}
use mathlib.Core.List.{List, [], ◌++◌}
use Prim.Native.Nat.{ℕ, ◌≤◌, min}
use native.Mathlib.Omega.{arith}
use borrow.Author.Tests.{ltb-true, ltb-false, le-ltb}
use lib.Dec.{ltb}
use lib.ListN.{length, take}
use lib.Seq.{length-take-le}
use Rattle.common.specs.Lent.{lent}
use Rattle.common.proofs.Tests.{by_test}
use Rattle.text.specs.declared.writer.Writer.{Writer}
use Rattle.text.specs.Written.{putting}
use Rattle.text.specs.Writer.{writer_at, standing, holding, writing, WritesAsPut}
use Rattle.text.proofs.WrittenLaws.{put_full, put_length, put_then, put_nothing, put_within}

-- past the end of the buffer nothing is written
writing_past : (s : List ℕ) (w : Writer) → length w.out.now ≤ w.at → writing s w ≡ w
unfolding writing
writing_past s w h = rw (le-ltb w.at (length w.out.now) h)

-- and else s is put
writing_puts : (s : List ℕ) (w : Writer) → w.at ≤ length w.out.now → writing s w ≡ holding w (putting s w.out.now w.at)
unfolding writing
writing_puts s w h =
    by_test (ltb w.at (length w.out.now)) (λ t. rw t)
    (λ t.
    let full : length w.out.now ≤ w.at = ltb-false w.at (length w.out.now) t in
    let e : w.at ≡ length w.out.now = omega arith in
    rw t (ap (λ (n : ℕ). holding w (lent n w.out.now)) e ∙ ap (holding w) (put_full s w.out.now w.at full)))

-- a and then b is a and b together
pub writing_both : (a b : List ℕ) (w : Writer) → writing b (writing a w) ≡ writing (a ++ b) w
writing_both a b w =
    by_test (ltb w.at (length w.out.now))
    (λ t.
    let h : w.at ≤ length w.out.now = omega (arith, ltb-true w.at (length w.out.now) t) in
    let p = putting a w.out.now w.at in
    let q = putting b p.buffer p.answer in
    let within : p.answer ≤ length p.buffer = put_within a w.out.now w.at p.answer p.buffer refl in
    ap (writing b) (writing_puts a w h) ∙ writing_puts b (holding w p) within
    ∙ ap (holding w) (put_then a b w.out.now w.at p.answer q.answer p.buffer q.buffer refl refl) ∙ sym (writing_puts (a ++ b) w h))
    (λ t.
    let h : length w.out.now ≤ w.at = ltb-false w.at (length w.out.now) t in
    ap (writing b) (writing_past a w h) ∙ writing_past b w h ∙ sym (writing_past (a ++ b) w h))

pub writing_then : (a b : List ℕ) (w : Writer) {w' w'' : Writer} → w' ≡ writing a w → w'' ≡ writing b w' → w'' ≡ writing (a ++ b) w
writing_then a b w e f = f ∙ ap (writing b) e ∙ writing_both a b w

-- nothing written
pub writing_none : (w : Writer) → writing [] w ≡ w
writing_none w =
    by_test (ltb w.at (length w.out.now))
    (λ t.
    let h : w.at ≤ length w.out.now = omega (arith, ltb-true w.at (length w.out.now) t) in
    writing_puts [] w h ∙ ap (holding w) (sym (put_nothing w.out.now w.at h)))
    (λ t. writing_past [] w (ltb-false w.at (length w.out.now) t))

-- the buffer keeps its length
pub writing_length : (s : List ℕ) (w : Writer) → length (writing s w).out.now ≡ length w.out.now
writing_length s w =
    by_test (ltb w.at (length w.out.now))
    (λ t.
    let h : w.at ≤ length w.out.now = omega (arith, ltb-true w.at (length w.out.now) t) in
    let p = putting s w.out.now w.at in
    ap (λ (v : Writer). length v.out.now) (writing_puts s w h) ∙ put_length s w.out.now w.at p.answer p.buffer refl)
    (λ t. ap (λ (v : Writer). length v.out.now) (writing_past s w (ltb-false w.at (length w.out.now) t)))

-- its text ends within it
pub writing_within : (s : List ℕ) (w : Writer) → w.at ≤ length w.out.now → length (take (writing s w).at (writing s w).out.now) ≡ (writing s w).at
writing_within s w h =
    let p = putting s w.out.now w.at in
    let within : p.answer ≤ length p.buffer = put_within s w.out.now w.at p.answer p.buffer refl in
    rw (writing_puts s w h) (length-take-le p.answer p.buffer within)

-- what a writer leaves is what was put
pub writes_as_put : WritesAsPut
writes_as_put s out at =
    by_test (ltb at (length out.now))
    (λ t.
    let h : min at (length out.now) ≤ length out.now = omega arith in
    let e : min at (length out.now) ≡ at = omega (arith, ltb-true at (length out.now) t) in
    ap standing (writing_puts s (writer_at out at) h) ∙ ap (putting s out.now) e)
    (λ t.
    let full : length out.now ≤ at = ltb-false at (length out.now) t in
    let e : min at (length out.now) ≡ length out.now = omega arith in
    ap standing (writing_past s (writer_at out at) (omega arith)) ∙ ap (λ (n : ℕ). lent n out.now) e ∙ put_full s out.now at full)

pub ruleset writing_rules = (writing_both, writing_none)
