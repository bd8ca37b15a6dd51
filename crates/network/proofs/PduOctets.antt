-- The PDU of a header is of octets, where key and transport are: octet 0 is a bit and the 7 bits of NID, octets 1-6 are octets xored with what the cipher gave, and CCM
-- seals octets. Assumes nothing.
use mathlib.Core.Bool.{Bool, true, false}
use mathlib.Core.List.{List, [], ◌∷◌, ◌++◌}
use Prim.Native.Nat.{ℕ, ◌≤◌, ◌<◌}
use native.Mathlib.Omega.{arith}
use lib.ListN.{take, replicate}
use Rattle.common.specs.Lists.{Octets}
use Rattle.common.proofs.Octets.{octets_one, octets_append, octets_xored}
use Rattle.aes.proofs.Octets.{octets_cipher}
use Rattle.modes.proofs.Octets.{octets_sealed}
use Rattle.keys.specs.declared.NetworkKeys.{NetworkKeys}
use Rattle.network.specs.declared.header.Header.{Header}
use Rattle.network.specs.Header.{transport_of}
use Rattle.network.specs.Nonce.{ctl_ttl, network_nonce}
use Rattle.network.specs.Octets.{octets}
use Rattle.network.specs.Pdu.{net_mic, first_octet, clear_front, privacy_block, obfuscated, body_of, pdu_of}
use Rattle.network.specs.Resealed.{OctetKey}
use Rattle.network.proofs.OctetsLaws.{octets_byte}

ctl_ttl_lt : (ctl : Bool) (ttl : ℕ) → ctl_ttl ctl ttl < 256
unfolding ctl_ttl
ctl_ttl_lt true ttl = omega arith
ctl_ttl_lt false ttl = omega arith

first_lt : (iv nid : ℕ) → nid ≤ 127 → first_octet iv nid < 256
unfolding first_octet
first_lt iv nid h = omega arith

module _ (key : NetworkKeys) (k : OctetKey key) (h : Header) where
  octets_front : Octets (clear_front h)
  unfolding clear_front
  octets_front =
      octets_append (ctl_ttl h.ctl h.ttl ∷ octets 3 h.seq) (octets 2 h.src)
      (octets_append (ctl_ttl h.ctl h.ttl ∷ []) (octets 3 h.seq) (octets_one _ (ctl_ttl_lt h.ctl h.ttl)) (octets_byte 3 h.seq))
      (octets_byte 2 h.src)

  octets_hidden : (random : List ℕ) → Octets (obfuscated key h.iv (clear_front h) random)
  unfolding obfuscated privacy_block
  octets_hidden random =
      octets_xored 6 (clear_front h) (privacy_block key h.iv random) octets_front
      (octets_cipher key.privacy (replicate 5 0 ++ octets 4 h.iv ++ random) k.privacy_octets)

  octets_body : Octets (transport_of h) → Octets (body_of key h)
  unfolding body_of
  octets_body t =
      octets_sealed key.encryption k.encryption_octets (network_nonce h.ctl h.ttl h.seq h.src h.iv) (net_mic h.ctl)
      (octets 2 h.dst ++ transport_of h) (octets_append (octets 2 h.dst) (transport_of h) (octets_byte 2 h.dst) t)

  pub octets_pdu : key.nid ≤ 127 → Octets (transport_of h) → Octets (pdu_of key h)
  unfolding pdu_of
  octets_pdu nid t =
      let body = body_of key h in
      let hidden = obfuscated key h.iv (clear_front h) (take 7 body) in
      let first = first_octet h.iv key.nid in
      octets_append (first ∷ hidden) body
      (octets_append (first ∷ []) hidden (octets_one first (first_lt h.iv key.nid nid)) (octets_hidden (take 7 body)))
      (octets_body t)
