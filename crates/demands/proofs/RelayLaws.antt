-- What relays pass on of a PDU is its header sealed with another TTL: its own key gives the header back, and sealing asks of TTL that it has 7 bits. Assumes nothing.
--   ttl_sealable     a header that can be sealed can be sealed with another TTL
--   relayed_sealed   a PDU that was sealed, passed on
use mathlib.Core.Bool.{true}
use mathlib.Core.List.{List}
use mathlib.Core.Path.{◌≡◌, refl, ap}
use Prim.Native.Nat.{ℕ, ◌≤◌}
use Rattle.keys.specs.declared.NetworkKeys.{NetworkKeys}
use Rattle.network.specs.declared.header.Header.{Header}
use Rattle.network.specs.Candidates.{key_at}
use Rattle.network.specs.Pdu.{pdu_of}
use Rattle.network.specs.Sealing.{sealable}
use Rattle.network.specs.SealOpen.{Formed}
use Rattle.network.proofs.Sealed.{within, sealable_where, tried_sealed}
use Rattle.node.specs.declared.addresses.Node.{Node}
use Rattle.demands.specs.ReadBack.{with_ttl, relayed_with}
use Rattle.demands.specs.Speech.{Speech}

pub ttl_sealable : (key : NetworkKeys) (h : Header) (t : ℕ) → t ≤ 127 → sealable key h ≡ true → sealable key (with_ttl h t) ≡ true
ttl_sealable key h t fits can =
    let w = within key h can in
    sealable_where key (with_ttl h t) w.nid_fits fits w.seq_fits w.allowed w.some_transport w.most_transport_law

module _ (node : Node) (s : Speech) (h : Header) (pdu : List ℕ) where
  abbrev key : NetworkKeys
  key = key_at node.materials s.network

  pub relayed_sealed :
      h.key ≡ s.network → h.iv ≡ s.auth.iv → pdu ≡ pdu_of key h → sealable key h ≡ true → Formed h → (t : ℕ) → relayed_with node s pdu t ≡ pdu_of key (with_ttl h t)
  relayed_sealed same under made can formed t =
      let back = tried_sealed key s.network h can formed in
      rw (made, ← under, back, ← same) refl
