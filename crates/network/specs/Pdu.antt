-- A Network PDU octet by octet, as document 01 lays it out, and as a key makes it of a header.
--   pdu_of key h         the PDU of the header h under a key
--   front_of key iv pdu  octets 1-6 of a PDU, in clear
use Rattle.std.specs.Prelude.{Bool, true, false, List, ◌∷◌, ◌++◌, ℕ, ◌+◌, ◌*◌, ◌%◌, take, drop, replicate}
use Rattle.common.specs.Lists.{xored}
use Rattle.aes.specs.Cipher.{cipher}
use Rattle.aes.specs.KeyExpansion.{key_schedule}
use Rattle.modes.specs.declared.ccm.MicSize.{MicSize}
use Rattle.modes.specs.declared.ccm.MicSize.TheVariants.{Four, Eight}
use Rattle.modes.specs.Ccm.{sealed}
use Rattle.keys.specs.declared.NetworkKeys.{NetworkKeys}
use Rattle.network.specs.declared.header.Header.{Header}
use Rattle.network.specs.Header.{transport_of}
use Rattle.network.specs.Nonce.{ctl_ttl, network_nonce}
use Rattle.network.specs.Octets.{octets}

-- the most octets that a PDU has
abbrev pub pdu_octets : ℕ
pdu_octets = 29

-- NetMIC: 4 octets, or 8 if CTL is 1
abbrev pub net_mic : Bool → MicSize
net_mic true = Eight
net_mic false = Four

-- octet 0: IVI (1 bit), the lowest of the IV Index; NID (7)
unfoldable pub first_octet : ℕ → ℕ → ℕ
first_octet iv nid = iv % 2 * 128 + nid

-- octets 1-6 in clear: CTL (1), TTL (7); SEQ; SRC
unfoldable pub clear_front : Header → List ℕ
clear_front h = ctl_ttl h.ctl h.ttl ∷ octets 3 h.seq ++ octets 2 h.src

-- AES under the privacy key over five zero octets, IV Index and PDU octets 7-13
unfoldable pub privacy_block : NetworkKeys → ℕ → List ℕ → List ℕ
privacy_block key iv random = cipher (key_schedule key.privacy) (replicate 5 0 ++ octets 4 iv ++ random)

-- octets 1-6 are XORed with the first six octets of that
unfoldable pub obfuscated : NetworkKeys → ℕ → List ℕ → List ℕ → List ℕ
obfuscated key iv front random = xored 6 front (privacy_block key iv random)

-- DST and transport, encrypted together, then NetMIC
unfoldable pub body_of : NetworkKeys → Header → List ℕ
body_of key h =
    sealed (key_schedule key.encryption) (network_nonce h.ctl h.ttl h.seq h.src h.iv) (net_mic h.ctl)
    (octets 2 h.dst ++ transport_of h)

-- the whole PDU
unfoldable pub pdu_of : NetworkKeys → Header → List ℕ
pdu_of key h =
    first_octet h.iv key.nid ∷ obfuscated key h.iv (clear_front h) (take 7 (body_of key h)) ++ body_of key h

-- octets 1-6 of a heard PDU in clear, under a key: the same XOR undoes itself
unfoldable pub front_of : NetworkKeys → ℕ → List ℕ → List ℕ
front_of key iv pdu = obfuscated key iv (take 6 (drop 1 pdu)) (take 7 (drop 7 pdu))
