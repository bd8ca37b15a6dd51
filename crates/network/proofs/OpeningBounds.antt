-- What an opening tells is small: at most four trials, the place of one of four keys, at most 16 octets of transport. The candidates are places
-- below 4, a search ends among them, and a PDU of 29 octets leaves no more transport behind front, DST and NetMIC.
-- Assumes nothing.
use mathlib.Core.Bool.{◌&&◌}
use mathlib.Core.List.{List}
use mathlib.Core.Path.{refl}
use Prim.Native.Nat.{ℕ, ◌/◌, ◌%◌, ◌≤◌, ◌<◌, min}
use native.Mathlib.Omega.{arith}
use borrow.Author.Tests.{ltb-false}
use lib.Dec.{eqb, ltb}
use lib.ListN.{length, get_or, drop, length-drop}
use Rattle.std.specs.Prelude.{Option, Some, None, IfSome, IfOk}
use Rattle.common.proofs.Picked.{places, length_places, length_picked}
use Rattle.common.proofs.Tests.{by_test}
use Rattle.common.proofs.Trials.{tries_places}
use Rattle.aes.specs.KeyExpansion.{key_schedule}
use Rattle.modes.proofs.CcmLaws.{mic_octets_bounds, length_decrypted}
use Rattle.keys.specs.declared.NetworkKeys.{NetworkKeys}
use Rattle.network.specs.declared.header.Header.{Header}
use Rattle.network.specs.declared.opening.Opening.{Opening}
use Rattle.network.specs.declared.trial.Found.{Found}
use Rattle.network.specs.Address.{addresses_allowed}
use Rattle.network.specs.Candidates.{network_key_places, key_at, candidates, opens, found_by, searched}
use Rattle.network.specs.IvIndex.{iv_index_heard}
use Rattle.network.specs.Opening.{admitted, judged, under, opening}
use Rattle.network.specs.Pdu.{pdu_octets, net_mic, front_of}
use Rattle.network.specs.Trial.{ctl_of, header_of, nonce_of, body_tried, tried}
use Rattle.network.proofs.CandidatesLaws.{has_nid}

-- ---- the header that a key gives
pub record LowHeader (h : Header) : Type 0 where
  pub key_low : h.key < network_key_places
  pub len_most : h.len ≤ 16

module _ (key : NetworkKeys) (place iv : ℕ) (pdu : List ℕ) (low : place < network_key_places) (short : length pdu ≤ pdu_octets) where
  header_low : (front : List ℕ) → LowHeader (header_of place iv front (body_tried key iv front pdu).buffer)
  unfolding header_of body_tried
  header_low front =
      let size = net_mic (ctl_of front) in
      let l = length_decrypted (key_schedule key.encryption) (nonce_of iv front) size (drop 7 pdu) refl in
      record { key_low = low; len_most = omega (arith, l, length-drop 7 pdu, (mic_octets_bounds size).0) }

  tried_low : IfSome (tried key place iv pdu) LowHeader
  unfolding tried
  tried_low =
      let front = front_of key iv pdu in
      by_test (ctl_of front && ltb (length pdu) 18)
      (λ t. rw t tt)
      (λ t. by_test (body_tried key iv front pdu).answer (λ u. rw (t, u) (header_low front)) (λ u. rw (t, u) tt))

-- ---- the search, and the call
module _ (keys : List NetworkKeys) (count nid : ℕ) where
  pub candidates_most : length (candidates keys count nid) ≤ network_key_places
  unfolding candidates
  candidates_most =
      omega (arith, length_picked (has_nid keys count nid) (places (min count network_key_places)), length_places (min count network_key_places))

-- at most four trials; of an opened PDU a place below 4, at most 16 octets of transport
record Sought (s : Found) : Type 0 where
  trials_few : s.trials ≤ network_key_places
  header_few : IfSome s.opened LowHeader

pub record Bounded (o : Opening) : Type 0 where
  pub trials_most : o.trials ≤ network_key_places
  pub header_most : IfOk o.opened LowHeader

module _ (keys : List NetworkKeys) (count : ℕ) (pdu : List ℕ) (short : length pdu ≤ pdu_octets) where
  searched_bounded : (nid iv : ℕ) → Sought (searched keys count nid iv pdu)
  unfolding searched candidates
  searched_bounded nid iv =
      let m = candidates_most keys count nid in
      tries_places (has_nid keys count nid) (opens keys iv pdu)
      (λ t. Sought (found_by keys iv pdu t)) (min count network_key_places)
      (λ i k b c o l. record { trials_few = omega arith; header_few = tried_low (key_at keys i) i iv pdu (omega arith) short })
      (record { trials_few = m; header_few = tt })

  admitted_low : (o : Option Header) → IfSome o LowHeader → IfOk (admitted o) LowHeader
  admitted_low None l = tt
  admitted_low (Some h) l = by_test (addresses_allowed h.ctl h.src h.dst) (λ u. rw u l) (λ u. rw u tt)

  judged_bounded : (s : Found) → Sought s → Bounded (judged s)
  unfolding judged
  judged_bounded s b = record { trials_most = b.trials_few; header_most = admitted_low s.opened b.header_few }

  under_bounded : (i : Option ℕ) → Bounded (under keys count pdu i)
  unfolding under
  under_bounded None = record { trials_most = omega arith; header_most = tt }
  under_bounded (Some iv) = let s = searched keys count (get_or pdu 0 0 % 128) iv pdu in judged_bounded s (searched_bounded (get_or pdu 0 0 % 128) iv)

pub opening_bounded : (keys : List NetworkKeys) (count current : ℕ) (pdu : List ℕ) → Bounded (opening keys count current pdu)
unfolding opening
opening_bounded keys count current pdu =
    by_test (ltb (length pdu) 14)
    (λ t. rw t (record { trials_most = omega arith; header_most = tt }))
    (λ t. by_test (ltb pdu_octets (length pdu))
    (λ u. rw (t, u) (record { trials_most = omega arith; header_most = tt }))
    (λ u. by_test (eqb (length (candidates keys count (get_or pdu 0 0 % 128))) 0)
    (λ v. rw (t, u, v) (record { trials_most = omega arith; header_most = tt }))
    (λ v. rw (t, u, v) (under_bounded keys count pdu (ltb-false pdu_octets (length pdu) u) (iv_index_heard current (get_or pdu 0 0 / 128))))))
