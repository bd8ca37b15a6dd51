-- `aes::worked_out::to_the`: none is the power 0, and the halved exponent's power squared is that of an even exponent, and once more of an odd one.
use mathlib.Core.Path.{◌∙◌}
use native.Mathlib.Omega.{arith}
use Rattle.aes.proofs.Power.{power_none, power_even, power_odd}
use Rattle.aes.proofs.worked_out.+to_the.Goals as goal

pub returns-then-e-eq0 : goal.returns-then-e-eq0
returns-then-e-eq0 t c = power_none _ _ c.if-e-eq0.true

pub returns-then-e-eq1 : goal.returns-then-e-eq1
returns-then-e-eq1 t c =
    let a = c.args in
    c.times-then-e-eq1.ensures ∙ power_odd a.b a.e _ _ (omega arith) c.times.ensures c.to_the-h.ensures c.if-e-eq1.true

pub returns-else-e-eq1 : goal.returns-else-e-eq1
returns-else-e-eq1 t c =
    let a = c.args in
    power_even a.b a.e _ _ (omega arith) c.times.ensures c.to_the-h.ensures c.if-e-eq1.false
