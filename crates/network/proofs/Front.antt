-- `ObfuscateTwice`: each octet is xored twice with the same octet of the privacy block. In clear the front is six octets that say CTL, TTL,
-- SEQ and SRC as the header does, where those are in their ranges: octets and their number determine each other.
-- Assumes nothing.
use mathlib.Core.Bool.{Bool, true, false}
use mathlib.Core.List.{List}
use mathlib.Core.Path.{◌≡◌, refl}
use Prim.Native.Nat.{ℕ, ◌+◌, ◌%◌, ◌<◌, ◌≤◌}
use native.Mathlib.Omega.{arith}
use borrow.Author.Tests.{le-leb, lt-leb}
use lib.Dec.{leb}
use lib.ListN.{length}
use Rattle.common.proofs.Lists.{length_xored, xored_twice}
use Rattle.keys.specs.declared.NetworkKeys.{NetworkKeys}
use Rattle.network.specs.declared.header.Header.{Header}
use Rattle.network.specs.Nonce.{ctl_ttl}
use Rattle.network.specs.Octets.{octets}
use Rattle.network.specs.Pdu.{clear_front, privacy_block, obfuscated}
use Rattle.network.specs.Trial.{ctl_of, ttl_of, seq_of, src_of}
use Rattle.network.specs.SealOpen.{ObfuscateTwice}
use Rattle.network.proofs.OctetsLaws.{number_octets}

-- ---- hidden, and shown again
pub obfuscate_twice : ObfuscateTwice
unfolding obfuscated
obfuscate_twice key iv front random e = xored_twice 6 front (privacy_block key iv random) e

pub length_obfuscated : (key : NetworkKeys) (iv : ℕ) (front random : List ℕ) → length (obfuscated key iv front random) ≡ 6
unfolding obfuscated
length_obfuscated key iv front random = length_xored 6 front (privacy_block key iv random)

-- ---- what it says in clear
ctl_back : (ctl : Bool) (ttl : ℕ) → leb 128 (ctl_ttl ctl ttl) ≡ ctl
unfolding ctl_ttl
ctl_back true ttl = le-leb 128 (128 + ttl % 128) (omega arith)
ctl_back false ttl = lt-leb 128 (0 + ttl % 128) (omega arith)

ttl_back : (ctl : Bool) (ttl : ℕ) → ttl ≤ 127 → ctl_ttl ctl ttl % 128 ≡ ttl
unfolding ctl_ttl
ttl_back true ttl l = omega arith
ttl_back false ttl l = omega arith

module _ (h : Header) where
  pub length_front : length (clear_front h) ≡ 6
  unfolding clear_front octets
  length_front = refl

  pub ctl_of_front : ctl_of (clear_front h) ≡ h.ctl
  unfolding clear_front
  ctl_of_front = ctl_back h.ctl h.ttl

  pub ttl_of_front : h.ttl ≤ 127 → ttl_of (clear_front h) ≡ h.ttl
  unfolding clear_front
  ttl_of_front l = ttl_back h.ctl h.ttl l

  pub seq_of_front : h.seq ≤ 0xFFFFFF → seq_of (clear_front h) ≡ h.seq
  unfolding clear_front octets
  seq_of_front l = number_octets 3 h.seq (omega arith)

  pub src_of_front : h.src < 65536 → src_of (clear_front h) ≡ h.src
  unfolding clear_front octets
  src_of_front l = number_octets 2 h.src (omega arith)
