-- `Found`, `Ends` and `LeadsBack`: the number stands in SEQ's own 8,192 or in the 8,192 before, and in each case the rest is arithmetic.
-- Assumes nothing.
use mathlib.Core.Path.{◌≡◌, ap}
use Prim.Native.Nat.{ℕ, ◌%◌, ◌+◌, ◌*◌, ◌/◌, ◌-◌}
use native.Mathlib.Omega.{arith}
use lib.Dec.{leb}
use borrow.Author.Tests.{le-leb, leb-true, leb-false}
use Rattle.common.proofs.Tests.{by_test}
use Rattle.std.specs.Prelude.{Some, None}
use Rattle.transport.specs.SeqAuth.{seq_auth}
use Rattle.transport.specs.LeadsBack.{Found, Ends, LeadsBack}

pub found : Found
unfolding seq_auth
found seq seq_zero n e =
    let low = seq_zero % 8192 in
    by_test (leb low (seq % 8192))
    (λ own.
    let h = leb-true low (seq % 8192) own in
    simp own (ap Some (omega (arith, e.not_after, e.near, e.low, h))))
    (λ before.
    let h = leb-false low (seq % 8192) before in
    simp (before, le-leb 8192 seq (omega (arith, e.not_after, e.near, e.low, h)))
    (ap Some (omega (arith, e.not_after, e.near, e.low, h))))

pub ends : Ends
unfolding seq_auth
ends seq seq_zero n e =
    let low = seq_zero % 8192 in
    by_test (leb low (seq % 8192))
    (λ own.
    let h = leb-true low (seq % 8192) own in
    let f : Some (seq / 8192 * 8192 + low) ≡ Some n = simp own at e in
    let g : seq / 8192 * 8192 + low ≡ n = cc in
    record { not_after = omega arith; near = omega arith; low = omega arith })
    (λ before.
    let h = leb-false low (seq % 8192) before in
    by_test (leb 8192 seq)
    (λ far.
    let k = leb-true 8192 seq far in
    let f : Some ((seq / 8192 - 1) * 8192 + low) ≡ Some n = simp (before, far) at e in
    let g : (seq / 8192 - 1) * 8192 + low ≡ n = cc in
    record { not_after = omega arith; near = omega arith; low = omega arith })
    (λ none.
    let f : None ≡ Some n = simp (before, none) at e in
    let z : ◌≡◌ {A = ℕ} 0 1 = cc in
    absurd (omega arith)))

pub leads_back : LeadsBack
leads_back first seq sent =
    found seq (first % 8192) first (record { not_after = omega arith; near = omega arith; low = omega arith })
