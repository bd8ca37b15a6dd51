-- A CCM opening, with a MIC of four octets, into a lent buffer.
use Rattle.std.specs.Prelude.{Bool, not, List, ℕ, eqb, length, if◌then◌else◌}
use Rattle.common.specs.Lent.{Lent, lent}
use Rattle.aes.specs.KeyExpansion.{key_schedule}
use Rattle.modes.specs.declared.ccm.MicSize.TheVariants.{Four}
use Rattle.modes.specs.Ccm.{opening}

-- 0 for an opening that succeeded, 1 for one that did not
unfoldable pub answered : Lent Bool → Lent ℕ
answered o = lent (if o.answer then 0 else 1) o.buffer

-- the opening so answered; refused, and out left, unless key has sixteen octets and nonce thirteen
unfoldable pub open_done : List ℕ → List ℕ → List ℕ → List ℕ → Lent ℕ
open_done key nonce sealed out =
    if not (eqb (length key) 16) then lent 14 out else
    if not (eqb (length nonce) 13) then lent 14 out else
    answered (opening (key_schedule key) nonce Four sealed out)
