-- Promises: obfuscation undoes itself; a sealed PDU is so long and names NID and IVI; its own key gives the header back; and opening does.
use Rattle.std.specs.Prelude.{true, false, Some, Ok, List, ◌⊎◌, ◌≡◌, ℕ, ◌+◌, ◌/◌, ◌%◌, ◌<◌, ◌≤◌, min, length, get_or, if◌then◌else◌}
use Rattle.common.specs.Lists.{padded}
use Rattle.keys.specs.declared.NetworkKeys.{NetworkKeys}
use Rattle.network.specs.declared.header.Header.{Header}
use Rattle.network.specs.Candidates.{network_key_places, key_at, candidates, opens}
use Rattle.network.specs.Header.{transport_of}
use Rattle.network.specs.IvIndex.{iv_index_heard}
use Rattle.network.specs.Opening.{opening}
use Rattle.network.specs.Pdu.{obfuscated, pdu_of}
use Rattle.network.specs.Sealing.{sealable}
use Rattle.network.specs.Trial.{tried}

-- six octets obfuscated twice are what they were
abbrev pub ObfuscateTwice : Type 0
ObfuscateTwice =
    (key : NetworkKeys) (iv : ℕ) (front random : List ℕ) → length front ≡ 6
    → obfuscated key iv (obfuscated key iv front random) random ≡ front

-- a PDU has 9 octets, its transport and a NetMIC of 4, or of 8 if CTL is 1
abbrev pub PduLength : Type 0
PduLength =
    (key : NetworkKeys) (h : Header)
    -- the transport is there
    → h.len ≤ length h.transport
    → length (pdu_of key h) ≡ 9 + h.len + (if h.ctl then 8 else 4)

-- octet 0 of a PDU
abbrev pub octet0 : List ℕ → ℕ
octet0 pdu = get_or pdu 0 0

-- octet 0 gives NID back, and IVI: the lowest bit of the IV Index that it was sealed with
abbrev pub FirstOctet : Type 0
FirstOctet =
    (key : NetworkKeys) (h : Header)
    -- NID has 7 bits
    → key.nid ≤ 127
    → (octet0 (pdu_of key h) % 128 ≡ key.nid) × (octet0 (pdu_of key h) / 128 ≡ h.iv % 2)

-- an IV Index that IVI picks has the lowest bit of the one that it was sealed with
abbrev pub OtherParity : Type 0
OtherParity =
    (key : NetworkKeys) (h : Header) (current i : ℕ) → key.nid ≤ 127
    → iv_index_heard current (octet0 (pdu_of key h) / 128) ≡ Some i → i % 2 ≡ h.iv % 2

-- what a header has besides that sealing does not ask for
pub record Formed (h : Header) : Type 0 where
  -- DST has 16 bits
  pub dst_fits : h.dst < 65536
  -- the transport stands in an array of 16 octets, with zeros behind it
  pub zeros_behind : padded 16 (transport_of h) ≡ h.transport

-- the header h with the place of a key
abbrev pub placed : ℕ → Header → Header
placed place h =
    record { key = place; iv = h.iv; ctl = h.ctl; ttl = h.ttl; seq = h.seq; src = h.src; dst = h.dst; len = h.len; transport = h.transport }

-- the key that sealed a PDU, tried under the same IV Index, gives its header back
abbrev pub TriedSealed : Type 0
TriedSealed =
    (key : NetworkKeys) (place : ℕ) (h : Header) → sealable key h ≡ true → Formed h
    → tried key place h.iv (pdu_of key h) ≡ Some (placed place h)

-- a receiver, by the keys that it holds and its current IV Index, of a PDU that the key of h sealed
pub record Receives (keys : List NetworkKeys) (count current : ℕ) (h : Header) (pdu : List ℕ) : Type 0 where
  -- its key is one of those held
  pub held : h.key < min count network_key_places
  -- its IV Index is the current one or the one before
  pub near : (h.iv ≡ current) ⊎ (h.iv + 1 ≡ current)
  -- no key before it with the same NID authenticates the PDU
  pub none_before : (j : ℕ) → j < h.key → (key_at keys j).nid ≡ (key_at keys h.key).nid → opens keys h.iv pdu j ≡ false

-- what a key sealed, a receiver opens to the same header; its trials are the candidates before the key, and the key
abbrev pub OpenSeal : Type 0
OpenSeal =
    (keys : List NetworkKeys) (count current : ℕ) (h : Header)
    → (let key = key_at keys h.key in
    sealable key h ≡ true → Formed h → Receives keys count current h (pdu_of key h)
    → opening keys count current (pdu_of key h) ≡ record { trials = length (candidates keys h.key key.nid) + 1; opened = Ok h })
