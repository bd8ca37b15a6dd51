-- The clear PDU without NetMIC: what a call that opens a PDU writes.
use Rattle.std.specs.Prelude.{List, ◌∷◌, ◌++◌, ℕ}
use Rattle.network.specs.declared.header.Header.{Header}
use Rattle.network.specs.Header.{transport_of}
use Rattle.network.specs.Octets.{octets}
use Rattle.network.specs.Pdu.{clear_front}

-- octet 0, CTL/TTL, SEQ, SRC, DST, transport
unfoldable pub clear_pdu : ℕ → Header → List ℕ
clear_pdu octet0 h = octet0 ∷ clear_front h ++ octets 2 h.dst ++ transport_of h
