-- Sealing one Network PDU for the C radio firmware.
--   header_for iv ctl ttl seq src dst transport                  the header that a call names
--   seal_number a                                                the number that a call answers
--   seal_done credential iv ctl ttl seq src dst transport out    what a call of `gorephan_seal` leaves
use Rattle.std.specs.Prelude.{Bool, not, Result, List, ℕ, ◌+◌, ◌*◌, eqb, ltb, length, if◌then◌else◌}
use Rattle.common.specs.Lent.{Lent, lent}
use Rattle.common.specs.Lists.{padded}
use Rattle.common.specs.Paper.{number_of}
use Rattle.network.specs.declared.header.Header.{Header}
use Rattle.network.specs.declared.sealing.Refusal.{Refusal}
use Rattle.network.specs.Sealing.{paper, sealed_length, sealing}
use Rattle.network.specs.Pdu.{pdu_octets}
use Rattle.radio.specs.Credential.{keys_of}

-- the header that a call names
abbrev pub header_for : ℕ → Bool → ℕ → ℕ → ℕ → ℕ → List ℕ → Header
header_for iv ctl ttl seq src dst transport =
    record { key = 0; iv = iv; ctl = ctl; ttl = ttl; seq = seq; src = src; dst = dst; len = length transport; transport = padded 16 transport }

-- refusal + 65536 * length
unfoldable pub seal_number : Result ℕ Refusal → ℕ
seal_number a = number_of (paper a) + 65536 * sealed_length a

-- 16: out is shorter than 29; 14 iff the credential is not 33 octets, ctl > 1, or the header is outside the rules of the Network PDU
unfoldable pub seal_done : List ℕ → ℕ → ℕ → ℕ → ℕ → ℕ → ℕ → List ℕ → List ℕ → Lent ℕ
seal_done credential iv ctl ttl seq src dst transport out =
    let s = sealing (keys_of credential) (header_for iv (eqb ctl 1) ttl seq src dst transport) out in
    if ltb (length out) pdu_octets then lent 16 out else
    if not (eqb (length credential) 33) then lent 14 out else
    if ltb 1 ctl then lent 14 out else
    lent (seal_number s.answer) s.buffer
