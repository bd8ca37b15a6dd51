-- `aes::worked_out::times` meets its contract: what is gathered, xored with the product of what is left, is the product.
-- Assumes nothing.
use mathlib.Core.Path.{◌≡◌, sym, ap, ◌∙◌}
use Prim.Native.Nat.{ℕ, ◌/◌}
use native.Mathlib.Omega.{arith}
use lib.Bits.{bit_xor, xor_zero_r, xor_zero_l}
use Rattle.aes.specs.Field.{product}
use Rattle.aes.proofs.Power.{product_none, turn_taken, turn_left}
use Rattle.aes.proofs.worked_out.times.Goals as goal
use Rattle.aes.proofs.worked_out.times.Goals.{then-y-eq1, else-y-eq1}

pub loop-y-init : goal.loop-y-init
loop-y-init c = (omega arith, xor_zero_l (product c.args.a c.args.b))

pub loop-y-preserved : goal.loop-y-preserved
loop-y-preserved c =
    let l = c.loop-y in
    let k = l.invariant.1 in
    let z = c.twice-x.result in
    let low = l.invariant.0 in (
      omega arith,
      elim c.if-y-eq1.branch [
        | then-y-eq1 w ↦
            ap (λ (u : ℕ). bit_xor u (product z (l.y / 2))) w.r-is ∙ turn_taken l.r l.x l.y z c.twice-x.ensures low w.if-y-eq1.true ∙ k
        | else-y-eq1 w ↦
            ap (λ (u : ℕ). bit_xor u (product z (l.y / 2))) w.r-is ∙ turn_left l.r l.x l.y z c.twice-x.ensures low w.if-y-eq1.false ∙ k
      ],
    )

pub returns : goal.returns
returns c =
    let l = c.loop-y in
    let e : l.y ≡ 0 = omega arith in
    sym (xor_zero_r l.r) ∙ ap (bit_xor l.r) (sym (product_none l.x) ∙ ap (product l.x) (sym e)) ∙ l.invariant.1
