-- Promise: what `gorephan_seal` seals, `gorephan_open` opens to what was sealed, where the credential is the first of the list and the IV Index the same: open(seal x) = x.
use Rattle.std.specs.Prelude.{true, List, ◌∷◌, ◌++◌, ◌≡◌, ℕ, ◌+◌, ◌/◌, ◌%◌, ◌<◌, ◌≤◌, eqb, length, get_or, take}
use Rattle.common.specs.Lent.{Lent, lent}
use Rattle.common.specs.Lists.{onto}
use Rattle.network.specs.Address.{addresses_allowed}
use Rattle.network.specs.Nonce.{ctl_ttl}
use Rattle.network.specs.Octets.{octets}
use Rattle.network.specs.Pdu.{pdu_octets, first_octet}
use Rattle.network.specs.Sealing.{most_transport}
use Rattle.radio.specs.Open.{packed, open_done}
use Rattle.radio.specs.Seal.{seal_done}

-- what a call of `gorephan_seal` is given, besides its buffer
pub record Asked : Type 0 where
  pub credential : List ℕ
  pub iv : ℕ
  pub ctl : ℕ
  pub ttl : ℕ
  pub seq : ℕ
  pub src : ℕ
  pub dst : ℕ
  pub transport : List ℕ

-- the call, with a buffer
abbrev pub sealed : Asked → List ℕ → Lent ℕ
sealed x buffer = seal_done x.credential x.iv x.ctl x.ttl x.seq x.src x.dst x.transport buffer

-- its number: refusal + 65536 * length
abbrev pub refusal_in : ℕ → ℕ
refusal_in r = r % 65536

abbrev pub length_in : ℕ → ℕ
length_in r = r / 65536

-- what is asked is within the rules
pub record WithinRules (x : Asked) : Type 0 where
  -- the credential is 33 octets, and its NID is not above 127
  pub whole : length x.credential ≡ 33
  pub nid_fits : get_or x.credential 0 0 ≤ 127
  -- CTL is 0 or 1, TTL has 7 bits, SEQ has 24
  pub ctl_fits : x.ctl ≤ 1
  pub ttl_fits : x.ttl ≤ 127
  pub seq_fits : x.seq ≤ 0xFFFFFF
  -- SRC is unicast, DST does not break rule 4, and has 16 bits
  pub addresses : addresses_allowed (eqb x.ctl 1) x.src x.dst ≡ true
  pub dst_fits : x.dst < 65536
  -- 1 to 16 octets of transport, 1 to 12 if CTL is 1
  pub some_transport : 1 ≤ length x.transport
  pub most_transport_law : length x.transport ≤ most_transport (eqb x.ctl 1)

-- octet 0, CTL/TTL, SEQ, SRC, DST and transport as asked
unfoldable pub clear_asked : Asked → List ℕ
clear_asked x =
    first_octet x.iv (get_or x.credential 0 0) ∷ ctl_ttl (eqb x.ctl 1) x.ttl ∷ octets 3 x.seq ++ octets 2 x.src ++ octets 2 x.dst
    ++ x.transport

-- sealing refuses nothing; and of the PDU that it wrote opening refuses nothing, with one trial, and writes what was asked
abbrev pub OpenSealed : Type 0
OpenSealed =
    (x : Asked) (credentials buffer out : List ℕ) → WithinRules x
    -- the first of the credentials is the one that sealed
    → take 33 credentials ≡ x.credential
    -- both buffers have room
    → pdu_octets ≤ length buffer → pdu_octets ≤ length out
    → (let s = sealed x buffer in
    let pdu = take (length_in s.answer) s.buffer in
    (refusal_in s.answer ≡ 0) × (open_done credentials x.iv pdu out ≡ lent (packed 0 1 (9 + length x.transport) 0) (onto (clear_asked x) out)))
