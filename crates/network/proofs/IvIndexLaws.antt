-- Of two numbers that follow each other one is even and one odd, so a lowest bit picks one of them and never the other.
-- Assumes nothing.
use mathlib.Core.Bool.{Bool, true, false}
use mathlib.Core.Logic.{◌⊎◌, inl, inr, ⊎_elim}
use mathlib.Core.Path.{◌≡◌, refl, sym, ap}
use Prim.Native.Nat.{ℕ, ◌+◌, ◌-◌, ◌%◌, ◌<◌}
use native.Mathlib.Omega.{arith}
use lib.Dec.{eqb}
use lib.ListN.{get_or}
use borrow.Author.Tests.{eq-eqb, ne_eqb, eqb-true, eqb-false}
use Rattle.std.specs.Prelude.{Option, Some, None}
use Rattle.common.specs.Paper.{Paper, Refusal, Given}
use Rattle.common.proofs.PaperLaws.{told_apart}
use Rattle.common.proofs.Tests.{by_test}
use Rattle.network.specs.IvIndex.{iv_index_heard, iv_index_sent, Word, index, paper, PaperApart}

-- the current one or the one before is given back by its own lowest bit
pub heard_of_index : (current i : ℕ) → (i ≡ current) ⊎ (i + 1 ≡ current) → iv_index_heard current (i % 2) ≡ Some i
unfolding iv_index_heard
heard_of_index current i o =
    ⊎_elim
    (λ e. rw (eq-eqb (current % 2) (i % 2 % 2) (omega arith)) (ap Some (sym e)))
    (λ e. rw (ne_eqb (current % 2) (i % 2 % 2) (omega arith), ne_eqb current 0 (omega arith)) (ap Some (omega arith))) o

-- what IVI picks has IVI as its lowest bit
pub heard_parity : (current ivi i : ℕ) → iv_index_heard current ivi ≡ Some i → i % 2 ≡ ivi % 2
unfolding iv_index_heard
heard_parity current ivi i e =
    by_test (eqb (current % 2) (ivi % 2))
    (λ t.
    let q : Some current ≡ Some i = rw t at e in
    let s : current ≡ i = cc in
    let h = eqb-true (current % 2) (ivi % 2) t in
    omega arith)
    (λ t.
    let h = eqb-false (current % 2) (ivi % 2) t in
    by_test (eqb current 0)
    (λ z.
    let q : None ≡ Some i = rw (t, z) at e in
    let s : ◌≡◌ {A = ℕ} 0 1 = cc in
    omega arith)
    (λ z.
    let q : Some (current - 1) ≡ Some i = rw (t, z) at e in
    let s : current - 1 ≡ i = cc in
    let n = eqb-false current 0 z in
    omega arith))

-- the one that sending uses is the current one or the one before, where there is one
pub sent_near : (current : ℕ) (flag : Bool) → (flag ≡ true → 0 < current) → (iv_index_sent current flag ≡ current) ⊎ (iv_index_sent current flag + 1 ≡ current)
unfolding iv_index_sent
sent_near current true h = let p = h refl in inr (omega arith)
sent_near current false h = inl refl

-- ---- how an answer is given
abbrev read : Paper Word → Option ℕ
read (Given index v) = Some (get_or v 0 0)
read (Refusal n v) = None

back : (i : Option ℕ) → read (paper i) ≡ i
back (Some iv) = refl
back None = refl

pub paper_apart : PaperApart
paper_apart = told_apart paper read back
