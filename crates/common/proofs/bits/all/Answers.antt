-- `bits::all` meets its contract: a shift of 1 to a place below 32 loses nothing, and from 31 on `min` is 31.
-- Assumes nothing.
use mathlib.Core.Path.{◌≡◌}
use Prim.Native.Nat.{◌+◌, min}
use native.Mathlib.Omega.{arith}
use lib.Pow.{pow_pos}
use Rattle.common.specs.Bits.{all_bits}
use Rattle.common.proofs.BitLaws.{one_shifted}
use Rattle.common.proofs.bits.all.Goals as goal

pub overflow_sub-result : goal.overflow_sub-result
overflow_sub-result c = rw (one_shifted (c.args.n + 1) (omega arith)) (pow_pos (c.args.n + 1))

pub returns-then-n-lt31 : goal.returns-then-n-lt31
unfolding all_bits
returns-then-n-lt31 c =
    let n = c.args.n in
    let m : min n 31 ≡ n = omega (arith, c.if-n-lt31.true) in
    rw (one_shifted (n + 1) (omega arith), m)

pub returns-else-n-lt31 : goal.returns-else-n-lt31
unfolding all_bits
returns-else-n-lt31 c =
    let m : min c.args.n 31 ≡ 31 = omega arith in
    rw m
