-- `bits::with` meets its contract: each return is one case of `with_bit`, and the sum fits since a word with one more bit is a word.
-- Assumes nothing.
use Rattle.std.proofs.Common.{rules, sym, ◌∙◌, arith, inl, inr}
use Rattle.common.proofs.BitLaws.{one_shifted, with_of_set, with_of_clear, with_past, with_bound}
use Rattle.common.proofs.bits.with.Goals as goal

pub returns-then-i-gt31 : goal.returns-then-i-gt31
returns-then-i-gt31 c =
    let a = c.args in
    elim c.if-i-gt31.either [
      | inl t ↦ sym (with_of_set a.x a.i (sym c.has.ensures ∙ t))
      | inr f ↦ sym (with_past a.x a.i f.1)
    ]

pub returns-else-i-gt31 : goal.returns-else-i-gt31
returns-else-i-gt31 c =
    let a = c.args in
    rw (one_shifted a.i (omega arith)) (sym (with_of_clear a.x a.i (omega arith) (sym c.has.ensures ∙ c.if-i-gt31.false.0)))

pub overflow_add-result : goal.overflow_add-result
overflow_add-result c =
    let a = c.args in
    rw (returns-else-i-gt31 c) (record { fits = with_bound a.x a.i (search rules) })
