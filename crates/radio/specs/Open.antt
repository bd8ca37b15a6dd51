-- Opening one Network PDU for the C radio firmware: no flag, no relay, no cache.
--   packed refusal trials octets place   the number that a call answers
--   told octet0 out o                    what a call tells of an opening, and leaves
--   open_done credentials iv pdu out     what a call of `gorephan_open` leaves
use Rattle.std.specs.Prelude.{Result, Ok, Err, List, ℕ, ◌+◌, ◌*◌, ltb, length, get_or, if◌then◌else◌}
use Rattle.common.specs.Lent.{Lent, lent}
use Rattle.common.specs.Lists.{onto}
use Rattle.common.specs.Paper.{number_of}
use Rattle.network.specs.declared.header.Header.{Header}
use Rattle.network.specs.declared.opening.Opening.{Opening}
use Rattle.network.specs.declared.opening.Refusal as refusal
use Rattle.network.specs.Opening.{paper, opening}
use Rattle.network.specs.Pdu.{pdu_octets}
use Rattle.radio.specs.ClearPdu.{clear_pdu}
use Rattle.radio.specs.Credential.{pieces, piece_count}

-- refusal (0 for none) + 256 * trials + 65536 * octets written + 2^24 * place of the credential in the list from 0
abbrev pub packed : ℕ → ℕ → ℕ → ℕ → ℕ
packed refusal trials octets place = refusal + 256 * trials + 65536 * octets + 0x1000000 * place

-- an opened PDU is written without NetMIC, octet 0 as heard; a refusal writes nothing and has 0 octets and place 0
abbrev pub told_as : ℕ → List ℕ → ℕ → Result Header refusal.Refusal → Lent ℕ
told_as octet0 out trials (Ok h) = let clear = clear_pdu octet0 h in lent (packed 0 trials (length clear) h.key) (onto clear out)
told_as octet0 out trials (Err r) = lent (packed (number_of (paper (Err r))) trials 0 0) out

unfoldable pub told : ℕ → List ℕ → Opening → Lent ℕ
told octet0 out o = told_as octet0 out o.trials o.opened

-- 16: out is shorter than 29; then refusals 1 to 4 over the first four whole pieces of credentials
unfoldable pub open_done : List ℕ → ℕ → List ℕ → List ℕ → Lent ℕ
open_done credentials iv pdu out =
    if ltb (length out) pdu_octets then lent 16 out else
    told (get_or pdu 0 0) out (opening (pieces credentials) (piece_count credentials) iv pdu)
