-- `aes::worked_out::entry` meets its contract: the 254th power is the inverse, and the table has its transform.
-- Assumes nothing.
use mathlib.Core.Path.{sym, ap, ◌∙◌}
use native.Mathlib.Omega.{arith}
use Rattle.aes.specs.Sbox.{affine}
use Rattle.aes.proofs.SboxRule.{worked_out}
use Rattle.aes.proofs.worked_out.entry.Goals as goal

pub returns : goal.returns
returns c =
    c.transform.ensures ∙ ap affine c.to_the.ensures ∙ sym (worked_out c.args.x (omega arith)).entry
