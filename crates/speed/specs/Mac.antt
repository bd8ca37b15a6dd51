-- A CMAC into a lent buffer.
use Rattle.std.specs.Prelude.{not, List, ℕ, eqb, ltb, length, if◌then◌else◌}
use Rattle.common.specs.Lists.{onto}
use Rattle.common.specs.Lent.{Lent, lent}
use Rattle.aes.specs.KeyExpansion.{key_schedule}
use Rattle.modes.specs.Cmac.{cmac}

-- the message's CMAC onto out; refused, and out left, unless key has sixteen octets and out room for sixteen
unfoldable pub mac_done : List ℕ → List ℕ → List ℕ → Lent ℕ
mac_done key message out =
    if not (eqb (length key) 16) then lent 14 out else
    if ltb (length out) 16 then lent 14 out else
    lent 0 (onto (cmac (key_schedule key) message) out)
