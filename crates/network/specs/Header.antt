-- The header of a Network PDU in clear (document 01, "The Network PDU"): key, IV Index, CTL, TTL, SEQ, SRC, DST and transport.
--   no_header         that of no PDU
--   transport_of h    the octets of transport
--   header_values h   what it says, field by field
use Rattle.std.specs.Prelude.{false, List, ◌∷◌, ℕ, take, replicate}
use Rattle.common.specs.Paper.{bit}
use Rattle.network.specs.declared.header.Header.{Header}

-- that of no PDU: zeros
abbrev pub no_header : Header
no_header =
    record { key = 0; iv = 0; ctl = false; ttl = 0; seq = 0; src = 0; dst = 0; len = 0; transport = replicate 16 0 }

-- the octets of transport
abbrev pub transport_of : Header → List ℕ
transport_of h = take h.len h.transport

-- key, IV Index, CTL, TTL, SEQ, SRC, DST, how many octets of transport, and those
abbrev pub header_values : Header → List ℕ
header_values h = h.key ∷ h.iv ∷ bit h.ctl ∷ h.ttl ∷ h.seq ∷ h.src ∷ h.dst ∷ h.len ∷ h.transport
