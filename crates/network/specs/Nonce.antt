-- The nonces of CCM stand here octet by octet, high first, as in the table of document 01, "Keys and ciphers".
--   network_nonce ctl ttl seq src iv           of a Network PDU
--   application_nonce szmic seq src dst iv     of an access message under an application key
--   device_nonce szmic seq src dst iv          of one under the device key
use Rattle.std.specs.Prelude.{Bool, List, [], ◌∷◌, ◌++◌, ℕ, ◌+◌, ◌%◌, if◌then◌else◌}
use Rattle.network.specs.Octets.{octets}

-- CTL and TTL in one octet: CTL the high bit, TTL the low 7
unfoldable pub ctl_ttl : Bool → ℕ → ℕ
ctl_ttl ctl ttl = (if ctl then 0x80 else 0x00) + ttl % 128

-- 80 for an 8-octet TransMIC, else 00
abbrev pub trans_mic_octet : Bool → ℕ
trans_mic_octet szmic = if szmic then 0x80 else 0x00

-- 00; CTL and TTL; SEQ (3); SRC (2); 00 00; IV Index (4)
unfoldable pub network_nonce : Bool → ℕ → ℕ → ℕ → ℕ → List ℕ
network_nonce ctl ttl seq src iv = 0x00 ∷ ctl_ttl ctl ttl ∷ octets 3 seq ++ octets 2 src ++ (0x00 ∷ 0x00 ∷ []) ++ octets 4 iv

-- the first octet; 80 for an 8-octet TransMIC, else 00; SEQ (3); SRC (2); DST (2); IV Index (4)
unfoldable pub message_nonce : ℕ → Bool → ℕ → ℕ → ℕ → ℕ → List ℕ
message_nonce first szmic seq src dst iv = first ∷ trans_mic_octet szmic ∷ octets 3 seq ++ octets 2 src ++ octets 2 dst ++ octets 4 iv

-- application: 01
abbrev pub application_nonce : Bool → ℕ → ℕ → ℕ → ℕ → List ℕ
application_nonce szmic seq src dst iv = message_nonce 0x01 szmic seq src dst iv

-- device: 02
abbrev pub device_nonce : Bool → ℕ → ℕ → ℕ → ℕ → List ℕ
device_nonce szmic seq src dst iv = message_nonce 0x02 szmic seq src dst iv
