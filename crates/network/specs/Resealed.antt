-- Promise: what was opened can be sealed again, so that forwarding it is never refused: the buffer's first octets are the PDU with TTL less 1, and there are as many as were heard.
use Rattle.std.specs.Prelude.{Ok, List, ◌≡◌, ℕ, ◌<◌, ◌≤◌, min, length}
use Rattle.common.specs.Lent.{lent}
use Rattle.common.specs.Lists.{onto, Octets}
use Rattle.keys.specs.declared.NetworkKeys.{NetworkKeys}
use Rattle.network.specs.declared.header.Header.{Header}
use Rattle.network.specs.Candidates.{network_key_places, key_at}
use Rattle.network.specs.Opening.{opening}
use Rattle.network.specs.Pdu.{pdu_octets, pdu_of}
use Rattle.network.specs.Sealing.{lowered, forwarding}

-- the keys held are of octets
pub record OctetKey (key : NetworkKeys) : Type 0 where
  pub encryption_octets : Octets key.encryption
  pub privacy_octets : Octets key.privacy

abbrev pub Resealed : Type 0
Resealed =
    (keys : List NetworkKeys) (count current : ℕ) (pdu : List ℕ) (trials : ℕ) (h : Header) (buf : List ℕ)
    → ((i : ℕ) → i < min count network_key_places → OctetKey (key_at keys i))
    → Octets pdu
    → pdu_octets ≤ length buf
    → opening keys count current pdu ≡ record { trials = trials; opened = Ok h }
    → forwarding keys h buf ≡ lent (Ok (length pdu)) (onto (pdu_of (key_at keys h.key) (lowered h)) buf)
