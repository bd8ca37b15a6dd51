-- `hex::read_pairs` meets its contract: before pair `i` the octets of the pairs in front of it are read.
-- Assumes nothing.
use mathlib.Core.Path.{refl, ◌∙◌}
use Prim.Native.Nat.{◌+◌, ◌*◌, ◌≤◌}
use native.Mathlib.Omega.{arith}
use lib.ListN.{length-set}
use Rattle.text.proofs.HexLaws.{digit_most, pair_next, pairs_on, pairs_short, pairs_all}
use Rattle.text.proofs.hex.read_pairs.Goals as goal

pub returns-in_default : goal.returns-in_default
returns-in_default c =
    let l = c.loop-i in
    pairs_short _ _ _ l.i l.invariant.1 c.args.n (omega arith) (omega arith)
    (pair_next _ l.i (omega arith) _ _ c.in_default.ensures refl)

pub returns-in_default-value : goal.returns-in_default-value
returns-in_default-value c =
    let l = c.loop-i in
    pairs_short _ _ _ l.i l.invariant.1 c.args.n (omega arith) (omega arith)
    (pair_next _ l.i (omega arith) _ _ c.in-Some.ensures c.in_default-value.ensures)

pub overflow_mul-out : goal.overflow_mul-out
overflow_mul-out c =
    let high : c.in-Some.high ≤ 15 = digit_most _ _ c.in-Some.ensures in
    omega arith

pub overflow_add-out : goal.overflow_add-out
overflow_add-out c =
    let high : c.in-Some.high ≤ 15 = digit_most _ _ c.in-Some.ensures in
    let low : c.in-Some-value.low ≤ 15 = digit_most _ _ c.in-Some-value.ensures in
    omega arith

pub loop-i-preserved : goal.loop-i-preserved
loop-i-preserved c =
    let l = c.loop-i in
    let octet = c.in-Some.high * 16 + c.in-Some-value.low in (
      length-set l.out l.i octet ∙ l.invariant.0,
      pairs_on _ _ l.out l.i l.invariant.1 octet (omega arith) (pair_next _ l.i (omega arith) _ _ c.in-Some.ensures c.in-Some-value.ensures),
    )

pub returns : goal.returns
returns c =
    let l = c.loop-i in
    pairs_all _ _ _ l.i l.invariant.1 c.args.n (omega arith) (omega arith) (omega arith)
