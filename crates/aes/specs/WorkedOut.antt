-- Promise: the S-box needs no table. The inverse of a byte is its 254th power, and the entry is the transform of that.
use Rattle.std.specs.Prelude.{◌≡◌, ℕ, ◌<◌}
use Rattle.aes.specs.Field.{power}
use Rattle.aes.specs.Sbox.{sbox, Inverse, affine}

-- so at one byte; that there is no other inverse, `RuleAt` says
pub record WorkedOutAt (x : ℕ) : Type 0 where
  pub inverts : Inverse x (power x 254)
  pub entry : sbox x ≡ affine (power x 254)

abbrev pub WorkedOut : Type 0
WorkedOut = (x : ℕ) → x < 256 → WorkedOutAt x
