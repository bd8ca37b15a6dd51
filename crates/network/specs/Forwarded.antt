-- Promises: what a key of the list can seal, it forwards, in as many octets as before; and a receiver opens that to the header with TTL less 1.
use Rattle.std.specs.Prelude.{true, Ok, List, ◌≡◌, ℕ, ◌+◌, ◌<◌, ◌≤◌, length}
use Rattle.common.specs.Lent.{lent}
use Rattle.common.specs.Lists.{onto}
use Rattle.keys.specs.declared.NetworkKeys.{NetworkKeys}
use Rattle.network.specs.declared.header.Header.{Header}
use Rattle.network.specs.Candidates.{network_key_places, key_at, candidates}
use Rattle.network.specs.Opening.{opening}
use Rattle.network.specs.Pdu.{pdu_octets, pdu_of}
use Rattle.network.specs.SealOpen.{Formed, Receives}
use Rattle.network.specs.Sealing.{sealable, lowered, forwarding}

-- the PDU of h is forwarded: the buffer's first octets are that of h with TTL less 1, and there are as many
abbrev pub Forwarded : Type 0
Forwarded =
    (keys : List NetworkKeys) (h : Header) (buf : List ℕ)
    → (let key = key_at keys h.key in
    h.key < network_key_places → sealable key h ≡ true → Formed h → pdu_octets ≤ length buf
    → forwarding keys h buf ≡ lent (Ok (length (pdu_of key h))) (onto (pdu_of key (lowered h)) buf))

-- a receiver opens it
abbrev pub OpenForwarded : Type 0
OpenForwarded =
    (keys : List NetworkKeys) (count current : ℕ) (h : Header)
    → (let key = key_at keys h.key in
    let pdu = pdu_of key (lowered h) in
    sealable key h ≡ true → Formed h → Receives keys count current (lowered h) pdu
    → opening keys count current pdu ≡ record { trials = length (candidates keys h.key key.nid) + 1; opened = Ok (lowered h) })
