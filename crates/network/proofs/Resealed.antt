-- `Resealed`: the key that opened a PDU reads its header off octets, since those heard and those of the cipher are. So SEQ has 24 bits and DST 16, TTL is a remainder, the
-- addresses were judged, and the transport is as long as the PDU's length leaves it: the header can be sealed, and `Forwarded` says the rest.
-- Assumes nothing.
use mathlib.Core.Bool.{Bool, true, false, ◌&&◌}
use mathlib.Core.List.{List}
use mathlib.Core.Path.{◌≡◌, refl, sym, ap, ◌∙◌, subst}
use Prim.Native.Nat.{ℕ, ◌+◌, ◌-◌, ◌/◌, ◌%◌, ◌^◌, ◌<◌, ◌≤◌, min}
use native.Mathlib.Omega.{arith}
use borrow.Author.Tests.{ltb-true, ltb-false, eqb-true}
use lib.Dec.{eqb, ltb}
use lib.ListN.{length, get_or, take, drop, length-take, length-drop, get_or-eq_default}
use lib.Seq.{get_or-take}
use Rattle.std.specs.Prelude.{Option, Some, None, Ok, IfSome, IfOk, if◌then◌else◌}
use Rattle.common.specs.Lent.{lent}
use Rattle.common.specs.Lists.{padded, onto, Octets}
use Rattle.common.proofs.Lists.{length_tab, get_d_tab, tab_ext}
use Rattle.common.proofs.Octets.{octets_take, octets_drop, octets_xored}
use Rattle.common.proofs.Tests.{by_test}
use Rattle.common.proofs.Trials.{tries_places}
use Rattle.aes.specs.KeyExpansion.{key_schedule}
use Rattle.aes.proofs.Octets.{octets_cipher}
use Rattle.modes.proofs.CcmLaws.{length_decrypted}
use Rattle.modes.proofs.Octets.{octets_decrypted}
use Rattle.modes.specs.Ccm.{mic_octets}
use Rattle.keys.specs.declared.NetworkKeys.{NetworkKeys}
use Rattle.network.specs.declared.header.Header.{Header}
use Rattle.network.specs.declared.opening.Opening.{Opening}
use Rattle.network.specs.Address.{addresses_allowed}
use Rattle.network.specs.Candidates.{network_key_places, key_at, candidates, opens, found_by, searched}
use Rattle.network.specs.IvIndex.{iv_index_heard}
use Rattle.network.specs.Octets.{number}
use Rattle.network.specs.Opening.{admitted, judged, under, opening}
use Rattle.network.specs.Pdu.{pdu_octets, net_mic, privacy_block, obfuscated, pdu_of, front_of}
use Rattle.network.specs.Resealed.{OctetKey, Resealed}
use Rattle.network.specs.Sealing.{most_transport, sealable, lowered}
use Rattle.network.specs.SealOpen.{Formed}
use Rattle.network.specs.Trial.{ctl_of, header_of, nonce_of, body_tried, tried}
use Rattle.network.proofs.CandidatesLaws.{has_nid}
use Rattle.network.proofs.Forwarded.{forwarded}
use Rattle.network.proofs.Front.{length_obfuscated}
use Rattle.network.proofs.OctetsLaws.{number_lt}
use Rattle.network.proofs.Sealed.{pdu_length, within, sealable_where, most_16, room}

-- what was cut off behind its end and padded again is what it was
padded_cut : (n len : ℕ) (l : List ℕ) → length l ≡ len → len ≤ n → padded n (take len (padded n l)) ≡ padded n l
padded_cut n len l e h =
    let p = padded n l in
    let long : length (take len p) ≡ len = length-take len p ∙ (let t = length_tab (λ (i : ℕ). get_or l i 0) n in omega arith) in
    tab_ext (λ i. get_or (take len p) i 0) (λ i. get_or l i 0) n
    (λ k b.
    by_test (ltb k len)
    (λ t. get_or-take len p k 0 (ltb-true k len t) ∙ get_d_tab (λ (i : ℕ). get_or l i 0) n k 0 b)
    (λ t.
    let out = ltb-false k len t in
    get_or-eq_default (take len p) 0 (omega arith) ∙ sym (get_or-eq_default l 0 (omega arith))))

-- a header that can be sealed again by a key, into as many octets
pub record Again (key : NetworkKeys) (pdu : List ℕ) (h : Header) : Type 0 where
  pub can : sealable key h ≡ true
  pub formed : Formed h
  pub long : 9 + h.len + (if h.ctl then 8 else 4) ≡ length pdu

-- ---- one key
module _ (key : NetworkKeys) (place iv : ℕ) (pdu : List ℕ) (nid : key.nid ≤ 127) (o : OctetKey key) (p : Octets pdu) (least : 14 ≤ length pdu) (most : length pdu ≤ pdu_octets) where
  abbrev front : List ℕ
  front = front_of key iv pdu

  abbrev body : List ℕ
  body = (body_tried key iv front pdu).buffer

  abbrev h : Header
  h = header_of place iv front body

  front_octets : Octets front
  unfolding front_of obfuscated privacy_block
  front_octets =
      octets_xored 6 (take 6 (drop 1 pdu)) (privacy_block key iv (take 7 (drop 7 pdu))) (octets_take 6 (drop 1 pdu) (octets_drop 1 pdu p))
      (octets_cipher key.privacy _ o.privacy_octets)

  front_six : length front ≡ 6
  unfolding front_of
  front_six = length_obfuscated key iv (take 6 (drop 1 pdu)) (take 7 (drop 7 pdu))

  body_octets : Octets body
  unfolding body_tried
  body_octets = octets_decrypted key.encryption o.encryption_octets (nonce_of iv front) (net_mic (ctl_of front)) (drop 7 pdu) (octets_drop 7 pdu p)

  body_long : length body ≡ length pdu - 7 - mic_octets (net_mic (ctl_of front))
  unfolding body_tried
  body_long =
      length_decrypted (key_schedule key.encryption) (nonce_of iv front) (net_mic (ctl_of front)) (drop 7 pdu) refl
      ∙ ap (λ (n : ℕ). n - mic_octets (net_mic (ctl_of front))) (length-drop 7 pdu)

  seq_fits : number (take 3 (drop 1 front)) < 256 ^ 3
  seq_fits =
      let e : length (take 3 (drop 1 front)) ≡ 3 = length-take 3 (drop 1 front) ∙ (let d = length-drop 1 front in let s = front_six in omega arith) in
      number_lt 3 (take 3 (drop 1 front)) e (octets_take 3 (drop 1 front) (octets_drop 1 front front_octets))

  -- CTL 1 has at least 18 octets
  module _ (fits : (ctl_of front && ltb (length pdu) 18) ≡ false) where
    -- lengths by CTL
    record Lengths (ctl : Bool) : Type 0 where
      some : 1 ≤ length body - 2
      few : length body - 2 ≤ most_transport ctl
      sum : 9 + (length body - 2) + (if ctl then 8 else 4) ≡ length pdu
      two : 2 ≤ length body

    lengths : (ctl : Bool) → ctl_of front ≡ ctl → Lengths ctl
    lengths true e =
        let b = body_long ∙ ap (λ (c : Bool). length pdu - 7 - mic_octets (net_mic c)) e in
        let l = ltb-false (length pdu) 18 (ap (λ (c : Bool). c && ltb (length pdu) 18) (sym e) ∙ fits) in
        record { some = omega arith; few = omega arith; sum = omega arith; two = omega arith }
    lengths false e =
        let b = body_long ∙ ap (λ (c : Bool). length pdu - 7 - mic_octets (net_mic c)) e in
        record { some = omega arith; few = omega arith; sum = omega arith; two = omega arith }

    abbrev l : Lengths (ctl_of front)
    l = lengths (ctl_of front) refl

    dst_fits_two : number (take 2 body) < 65536
    dst_fits_two =
        let e : length (take 2 body) ≡ 2 = length-take 2 body ∙ (let t = l.two in omega arith) in
        number_lt 2 (take 2 body) e (octets_take 2 body body_octets)

    header_again : addresses_allowed h.ctl h.src h.dst ≡ true → Again key pdu h
    unfolding header_of
    header_again a =
        let s = seq_fits in
        let few = l.few in
        let cap = most_16 (ctl_of front) in
        let left : length (drop 2 body) ≡ length body - 2 = length-drop 2 body in
        record {
          can = sealable_where key h nid (omega arith) (omega arith) a l.some few;
          formed = record { dst_fits = dst_fits_two; zeros_behind = padded_cut 16 (length body - 2) (drop 2 body) left (omega arith) };
          long = l.sum;
        }

  -- a key that opens it
  tried_again : IfSome (tried key place iv pdu) (λ t. addresses_allowed t.ctl t.src t.dst ≡ true → Again key pdu t × (t.key ≡ place))
  unfolding tried header_of
  tried_again =
      by_test (ctl_of front && ltb (length pdu) 18)
      (λ t. rw t tt)
      (λ t. by_test (body_tried key iv front pdu).answer
      (λ u. rw (t, u) (λ a. (header_again t a, refl)))
      (λ u. rw (t, u) tt))

-- ---- the search, and the call
-- a header that the key at its place can seal again
record Resealable (keys : List NetworkKeys) (pdu : List ℕ) (h : Header) : Type 0 where
  again : Again (key_at keys h.key) pdu h
  low : h.key < network_key_places

abbrev ResealableWhere : List NetworkKeys → List ℕ → Opening → Type 0
ResealableWhere keys pdu o = IfOk o.opened (Resealable keys pdu)

-- and of a search: where its addresses are allowed
abbrev AllowedAgain : List NetworkKeys → List ℕ → Header → Type 0
AllowedAgain keys pdu h = addresses_allowed h.ctl h.src h.dst ≡ true → Resealable keys pdu h

if_some : {P Q : Header → Type 0} (o : Option Header) → ((h : Header) → P h → Q h) → IfSome o P → IfSome o Q
if_some None f p = tt
if_some (Some h) f p = f h p

module _ (keys : List NetworkKeys) (count : ℕ) (pdu : List ℕ) (held : (i : ℕ) → i < min count network_key_places → OctetKey (key_at keys i)) (p : Octets pdu)
    (least : 14 ≤ length pdu) (most : length pdu ≤ pdu_octets) where
  searched_again : (nid iv : ℕ) → nid ≤ 127 → IfSome (searched keys count nid iv pdu).opened (AllowedAgain keys pdu)
  unfolding searched candidates opens
  searched_again nid iv seven =
      tries_places (has_nid keys count nid) (opens keys iv pdu) (λ t. IfSome (found_by keys iv pdu t).opened (AllowedAgain keys pdu)) (min count network_key_places)
      (λ i k low same o _.
      let n = eqb-true (key_at keys i).nid nid same in
      if_some (tried (key_at keys i) i iv pdu)
      (λ h x a.
      let again = (x a).0 in
      record { again = subst (λ (n : ℕ). Again (key_at keys n) pdu h) (sym (x a).1) again; low = omega (arith, (x a).1) })
      (tried_again (key_at keys i) i iv pdu (omega arith) (held i low) p least most))
      tt

  admitted_again : (o : Option Header) → IfSome o (AllowedAgain keys pdu) → IfOk (admitted o) (Resealable keys pdu)
  admitted_again None r = tt
  admitted_again (Some h) r = by_test (addresses_allowed h.ctl h.src h.dst) (λ u. rw u (r u)) (λ u. rw u tt)

  under_again : (i : Option ℕ) → ResealableWhere keys pdu (under keys count pdu i)
  unfolding under judged
  under_again None = tt
  under_again (Some iv) = admitted_again (searched keys count (get_or pdu 0 0 % 128) iv pdu).opened (searched_again (get_or pdu 0 0 % 128) iv (omega arith))

opening_again :
    (keys : List NetworkKeys) (count current : ℕ) (pdu : List ℕ) → ((i : ℕ) → i < min count network_key_places → OctetKey (key_at keys i)) → Octets pdu
    → ResealableWhere keys pdu (opening keys count current pdu)
unfolding opening
opening_again keys count current pdu held p =
    by_test (ltb (length pdu) 14)
    (λ t. rw t tt)
    (λ t. by_test (ltb pdu_octets (length pdu))
    (λ u. rw (t, u) tt)
    (λ u. by_test (eqb (length (candidates keys count (get_or pdu 0 0 % 128))) 0)
    (λ v. rw (t, u, v) tt)
    (λ v. rw (t, u, v)
    (under_again keys count pdu held p (ltb-false (length pdu) 14 t) (ltb-false pdu_octets (length pdu) u) (iv_index_heard current (get_or pdu 0 0 / 128))))))

pub resealed : Resealed
resealed keys count current pdu trials h buf held p wide e =
    let key = key_at keys h.key in
    let r : Resealable keys pdu h =
    subst (λ (o : Opening). ResealableWhere keys pdu o) e (opening_again keys count current pdu held p) in
    let a = r.again in
    let there = room key h (within key h a.can) a.formed in
    forwarded keys h buf r.low a.can a.formed wide
    ∙ ap (λ (n : ℕ). lent (Ok n) (onto (pdu_of key (lowered h)) buf)) (pdu_length key h there ∙ a.long)
