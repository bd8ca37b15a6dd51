-- A block encrypted over itself.
--   encrypted n ks b              b after n encryptions
--   blocks_done key block times   what a call of `speed_blocks` leaves
use Rattle.std.specs.Prelude.{not, List, ℕ, zero, suc, eqb, length, if◌then◌else◌}
use Rattle.common.specs.Lent.{Lent, lent}
use Rattle.aes.specs.Cipher.{cipher}
use Rattle.aes.specs.KeyExpansion.{key_schedule}

-- b after n encryptions
unfoldable pub encrypted : ℕ → List (List ℕ) → List ℕ → List ℕ
encrypted zero ks b = b
encrypted (suc n) ks b = cipher ks (encrypted n ks b)

-- the block encrypted so often; refused, and left, unless key and block have sixteen octets
unfoldable pub blocks_done : List ℕ → List ℕ → ℕ → Lent ℕ
blocks_done key block times =
    if not (eqb (length key) 16) then lent 14 block else
    if not (eqb (length block) 16) then lent 14 block else
    lent 0 (encrypted times (key_schedule key) block)
