-- `TriedSealed`: behind octet 0 and the six obfuscated ones the body stands whole, so its first octets give the same privacy block again and
-- the front is shown. What it says gives the same nonce and NetMIC, so decrypting the body gives DST and transport, from which the header
-- is read back. `PduLength`, `FirstOctet` and `OtherParity` read off the PDU as it is laid out.
-- Assumes nothing.
use mathlib.Core.Bool.{Bool, true, false, ◌&&◌, and-eq-true_iff}
use mathlib.Core.List.{List, ◌++◌}
use mathlib.Core.Path.{◌≡◌, refl, sym, ap, ap₂, ◌∙◌}
use Prim.Native.Nat.{ℕ, ◌+◌, ◌-◌, ◌/◌, ◌<◌, ◌≤◌}
use native.Mathlib.Omega.{arith}
use borrow.Author.Tests.{le-ltb, le-leb, leb-true}
use lib.Dec.{ltb}
use lib.ListN.{length, get_or, take, drop, length-append}
use lib.Seq.{take_at, drop_at, length-take-le}
use Rattle.std.specs.Prelude.{Some, if◌then◌else◌}
use Rattle.common.specs.Lists.{padded}
use Rattle.common.specs.Lent.{lent}
use Rattle.common.proofs.Lists.{length_tab}
use Rattle.aes.specs.KeyExpansion.{key_schedule}
use Rattle.modes.specs.Ccm.{mic_octets}
use Rattle.modes.proofs.RoundTrip.{sealed_length_law, decrypted_sealed}
use Rattle.keys.specs.declared.NetworkKeys.{NetworkKeys}
use Rattle.network.specs.declared.header.Header.{Header}
use Rattle.network.specs.Address.{addresses_allowed}
use Rattle.network.specs.Header.{transport_of}
use Rattle.network.specs.Nonce.{network_nonce}
use Rattle.network.specs.Octets.{octets, number}
use Rattle.network.specs.Pdu.{net_mic, first_octet, clear_front, obfuscated, body_of, pdu_of, front_of}
use Rattle.network.specs.Sealing.{sealable, most_transport}
use Rattle.network.specs.Trial.{ctl_of, header_of, nonce_of, body_tried, tried}
use Rattle.network.specs.SealOpen.{PduLength, octet0, FirstOctet, OtherParity, Formed, placed, TriedSealed}
use Rattle.network.proofs.AddressLaws.{unicast_bounds, allowed_source}
use Rattle.network.proofs.Front.{obfuscate_twice, length_obfuscated, length_front, ctl_of_front, ttl_of_front, seq_of_front, src_of_front}
use Rattle.network.proofs.IvIndexLaws.{heard_parity}
use Rattle.network.proofs.OctetsLaws.{length_octets, number_octets}

-- DST and transport in clear
abbrev pub clear_body : Header → List ℕ
clear_body h = octets 2 h.dst ++ transport_of h

-- the nonce that it is sealed with
abbrev pub nonce_for : Header → List ℕ
nonce_for h = network_nonce h.ctl h.ttl h.seq h.src h.iv

-- ---- lengths
pub length_clear : (h : Header) → h.len ≤ length h.transport → length (clear_body h) ≡ 2 + h.len
length_clear h l =
    length-append (octets 2 h.dst) (transport_of h) ∙ ap₂ ◌+◌ (length_octets 2 h.dst) (length-take-le h.len h.transport l)

pub mic_octets_law : (ctl : Bool) → mic_octets (net_mic ctl) ≡ (if ctl then 8 else 4)
mic_octets_law true = refl
mic_octets_law false = refl

pub length_body : (key : NetworkKeys) (h : Header) → h.len ≤ length h.transport → length (body_of key h) ≡ 2 + h.len + (if h.ctl then 8 else 4)
unfolding body_of
length_body key h l =
    sealed_length_law (key_schedule key.encryption) (nonce_for h) (net_mic h.ctl) (clear_body h) ∙ ap₂ ◌+◌ (length_clear h l) (mic_octets_law h.ctl)

pub pdu_length : PduLength
unfolding pdu_of
pdu_length key h l =
    let b = length_body key h l in
    let o = length_obfuscated key h.iv (clear_front h) (take 7 (body_of key h)) in
    simp length-append (omega arith)

-- ---- octet 0
pub first_octet_law : FirstOctet
unfolding pdu_of first_octet
first_octet_law key h l = (omega arith, omega arith)

pub other_parity : OtherParity
other_parity key h current i l e =
    let o = (first_octet_law key h l).1 in
    let p = heard_parity current (octet0 (pdu_of key h) / 128) i e in
    omega arith

-- ---- the PDU taken apart
module _ (key : NetworkKeys) (h : Header) where
  -- octets 7-13, and the front that they hide
  abbrev random : List ℕ
  random = take 7 (body_of key h)

  abbrev hidden : List ℕ
  hidden = obfuscated key h.iv (clear_front h) random

  drop_pdu : drop 7 (pdu_of key h) ≡ body_of key h
  unfolding pdu_of
  drop_pdu = drop_at hidden (body_of key h) 6 (length_obfuscated key h.iv (clear_front h) random)

  take_pdu : take 6 (drop 1 (pdu_of key h)) ≡ hidden
  unfolding pdu_of
  take_pdu = take_at hidden (body_of key h) 6 (length_obfuscated key h.iv (clear_front h) random)

  front_shown : clear_front h ≡ front_of key h.iv (pdu_of key h)
  unfolding front_of
  front_shown = rw (drop_pdu, take_pdu) (sym (obfuscate_twice key h.iv (clear_front h) random (length_front h)))

-- ---- what a header that may be sealed has
-- a unicast address has 16 bits
allowed_src : (ctl : Bool) (src dst : ℕ) → addresses_allowed ctl src dst ≡ true → src < 65536
allowed_src ctl src dst a = let b = (unicast_bounds src (allowed_source ctl src dst a)).1 in omega arith

pub record Within (key : NetworkKeys) (h : Header) : Type 0 where
  pub nid_fits : key.nid ≤ 127
  pub ttl_fits : h.ttl ≤ 127
  pub seq_fits : h.seq ≤ 0xFFFFFF
  pub allowed : addresses_allowed h.ctl h.src h.dst ≡ true
  pub src_fits : h.src < 65536
  pub some_transport : 1 ≤ h.len
  pub most_transport_law : h.len ≤ most_transport h.ctl

pub within : (key : NetworkKeys) (h : Header) → sealable key h ≡ true → Within key h
unfolding sealable
within key h e =
    let p = simp and-eq-true_iff at e in
    let a : addresses_allowed h.ctl h.src h.dst ≡ true = p.0.0.1 in
    record {
      nid_fits = omega (arith, leb-true);
      ttl_fits = omega (arith, leb-true);
      seq_fits = omega (arith, leb-true);
      allowed = a;
      src_fits = allowed_src h.ctl h.src h.dst a;
      some_transport = omega (arith, leb-true);
      most_transport_law = leb-true h.len (most_transport h.ctl) p.1;
    }

-- and where these hold, it may be
pub sealable_where :
    (key : NetworkKeys) (h : Header) → key.nid ≤ 127 → h.ttl ≤ 127 → h.seq ≤ 0xFFFFFF → addresses_allowed h.ctl h.src h.dst ≡ true
    → 1 ≤ h.len → h.len ≤ most_transport h.ctl → sealable key h ≡ true
unfolding sealable
sealable_where key h nid ttl seq allowed some most =
    rw (
      le-leb key.nid 127 nid,
      le-leb h.ttl 127 ttl,
      le-leb h.seq 0xFFFFFF seq,
      allowed,
      le-leb 1 h.len some,
      le-leb h.len (most_transport h.ctl) most,
    ) refl

pub most_16 : (ctl : Bool) → most_transport ctl ≤ 16
most_16 true = omega arith
most_16 false = omega arith

-- CTL 1 has 18 octets at least
long_enough : (ctl : Bool) (len : ℕ) → 1 ≤ len → (ctl && ltb (9 + len + (if ctl then 8 else 4)) 18) ≡ false
long_enough true len l = le-ltb (9 + len + 8) 18 (omega arith)
long_enough false len l = refl

-- ---- the key is tried
tried_of :
    (key : NetworkKeys) (place iv : ℕ) (pdu : List ℕ) {front m : List ℕ} → front ≡ front_of key iv pdu → lent true m ≡ body_tried key iv front pdu
    → (ctl_of front && ltb (length pdu) 18) ≡ false → tried key place iv pdu ≡ Some (header_of place iv front m)
unfolding tried
tried_of key place iv pdu ef eb et = rw (← ef, et, ← eb)

module _ (key : NetworkKeys) (h : Header) (w : Within key h) (f : Formed h) where
  -- the transport is there
  pub room : h.len ≤ length h.transport
  room =
      let n : length h.transport ≡ 16 = ap length (sym f.zeros_behind) ∙ length_tab (λ (i : ℕ). get_or (transport_of h) i 0) 16 in
      omega (arith, w.most_transport_law, most_16 h.ctl)

  ctl_long : (ctl_of (clear_front h) && ltb (length (pdu_of key h)) 18) ≡ false
  ctl_long = rw (ctl_of_front h, pdu_length key h room) (long_enough h.ctl h.len w.some_transport)

  nonce_same : nonce_of h.iv (clear_front h) ≡ nonce_for h
  unfolding nonce_of
  nonce_same = rw (ctl_of_front h, ttl_of_front h w.ttl_fits, seq_of_front h w.seq_fits, src_of_front h w.src_fits)

  body_same : lent true (clear_body h) ≡ body_tried key h.iv (clear_front h) (pdu_of key h)
  unfolding body_tried body_of
  body_same = rw (drop_pdu key h, nonce_same, ctl_of_front h) (decrypted_sealed (key_schedule key.encryption) (nonce_for h) (net_mic h.ctl) (clear_body h))

  header_same : (place : ℕ) → header_of place h.iv (clear_front h) (clear_body h) ≡ placed place h
  unfolding header_of
  header_same place =
      let d = octets 2 h.dst in
      let two : length d ≡ 2 = length_octets 2 h.dst in
      let ed : number (take 2 (clear_body h)) ≡ h.dst = ap number (take_at d (transport_of h) 2 two) ∙ number_octets 2 h.dst f.dst_fits in
      let el : length (clear_body h) - 2 ≡ h.len = omega (arith, length_clear h room) in
      let et : padded 16 (drop 2 (clear_body h)) ≡ h.transport = ap (padded 16) (drop_at d (transport_of h) 2 two) ∙ f.zeros_behind in
      rw (ctl_of_front h, ttl_of_front h w.ttl_fits, seq_of_front h w.seq_fits, src_of_front h w.src_fits, ed, el, et)

pub tried_sealed : TriedSealed
tried_sealed key place h s f =
    let w = within key h s in
    tried_of key place h.iv (pdu_of key h) (front_shown key h) (body_same key h w f) (ctl_long key h w f)
    ∙ ap Some (header_same key h w f place)
