-- `aes::worked_out::times` meets its contract: what is gathered, xored with the product of what is left, is the product.
-- Assumes nothing.
use mathlib.Core.Path.{◌≡◌}
use Prim.Native.Nat.{◌<◌}
use lib.Bits.{bit_xor}
use Rattle.aes.specs.Field.{product}
use Rattle.aes.proofs.worked_out.times.Given as goal

abbrev pub invariant-loop-y : goal.invariant-loop-y
invariant-loop-y l = (l.y < 256) × (bit_xor l.r (product l.x l.y) ≡ product l.a l.b)

abbrev pub decreases-loop-y : goal.decreases-loop-y
decreases-loop-y l = l.y
