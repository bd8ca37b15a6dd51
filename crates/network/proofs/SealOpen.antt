-- `OpenSeal`: no candidate before the key authenticates the PDU and it does (`TriedSealed`), so the search ends at it, behind as many trials as there
-- are candidates before it; length, NID, IVI and addresses pass.
-- Assumes nothing.
use mathlib.Core.Bool.{Bool, true, false}
use mathlib.Core.List.{List}
use mathlib.Core.Path.{◌≡◌, refl, sym, ap, ◌∙◌}
use Prim.Native.Nat.{ℕ, ◌+◌, ◌/◌, ◌%◌, ◌<◌, ◌≤◌, min}
use native.Mathlib.Omega.{arith}
use borrow.Author.Tests.{le-ltb, eq-eqb, ne_eqb, eqb-true}
use lib.ListN.{length}
use Rattle.std.specs.Prelude.{Some, Ok, is_some, if◌then◌else◌}
use Rattle.common.proofs.Trials.{tries_at}
use Rattle.keys.specs.declared.NetworkKeys.{NetworkKeys}
use Rattle.network.specs.declared.header.Header.{Header}
use Rattle.network.specs.declared.trial.Found.{Found}
use Rattle.network.specs.Address.{addresses_allowed}
use Rattle.network.specs.Candidates.{network_key_places, key_at, candidates, opens, searched}
use Rattle.network.specs.IvIndex.{iv_index_heard}
use Rattle.network.specs.Opening.{judged, under, opening}
use Rattle.network.specs.Pdu.{pdu_octets, pdu_of}
use Rattle.network.specs.Sealing.{most_transport}
use Rattle.network.specs.Trial.{tried}
use Rattle.network.specs.SealOpen.{octet0, OpenSeal}
use Rattle.network.proofs.CandidatesLaws.{has_nid, trials_none}
use Rattle.network.proofs.IvIndexLaws.{heard_of_index}
use Rattle.network.proofs.Sealed.{pdu_length, first_octet_law, within, room, tried_sealed}

-- ---- the call
module _ (keys : List NetworkKeys) (count nid iv : ℕ) (pdu : List ℕ) where
  opening_of_law :
      (current : ℕ) {trials : ℕ} {x : Header} → 14 ≤ length pdu → length pdu ≤ pdu_octets → octet0 pdu % 128 ≡ nid
      → iv_index_heard current (octet0 pdu / 128) ≡ Some iv → 0 < trials
      → searched keys count nid iv pdu ≡ record { trials = trials; opened = Some x } → addresses_allowed x.ctl x.src x.dst ≡ true
      → opening keys count current pdu ≡ record { trials = trials; opened = Ok x }
  unfolding opening under judged
  opening_of_law current {trials} l u en ei some es ea =
      let held : length (candidates keys count nid) ≡ 0 → ⊥ =
      λ z. let k : trials ≡ 0 = sym (ap (λ (f : Found). f.trials) es) ∙ trials_none keys count nid iv pdu z in omega arith in
      rw (le-ltb (length pdu) 14 l, le-ltb pdu_octets (length pdu) u, en, ne_eqb (length (candidates keys count nid)) 0 held, ei, en) (ap judged es ∙ rw ea)

-- 14 to 29 octets
length_fits : (ctl : Bool) (len : ℕ) → 1 ≤ len → len ≤ most_transport ctl → (let n = 9 + len + (if ctl then 8 else 4) in (14 ≤ n) × (n ≤ pdu_octets))
length_fits true len l u = (omega arith, omega arith)
length_fits false len l u = (omega arith, omega arith)

-- ---- the candidates of a PDU whose key is at place i: the search ends at it, behind the candidates before it
module _ (keys : List NetworkKeys) (count i iv : ℕ) (pdu : List ℕ) (held : i < min count network_key_places) where
  abbrev nid : ℕ
  nid = (key_at keys i).nid

  searched_at :
      {x : Header} → ((j : ℕ) → j < i → (key_at keys j).nid ≡ nid → opens keys iv pdu j ≡ false) → tried (key_at keys i) i iv pdu ≡ Some x
      → searched keys count nid iv pdu ≡ record { trials = length (candidates keys i nid) + 1; opened = Some x }
  unfolding searched candidates opens
  searched_at none t =
      let n : min i network_key_places ≡ i = omega arith in
      let e =
      tries_at (has_nid keys count nid) (opens keys iv pdu) (min count network_key_places) i held (eq-eqb nid nid refl) (ap is_some t)
      (λ j b e. none j b (eqb-true (key_at keys j).nid nid e)) in
      rw (e, t, n)

pub open_seal : OpenSeal
open_seal keys count current h s f r =
    let i = h.key in
    let key = key_at keys i in
    let pdu = pdu_of key h in
    let w = within key h s in
    let n = pdu_length key h (room key h w f) in
    let fits = length_fits h.ctl h.len w.some_transport w.most_transport_law in
    let o = first_octet_law key h w.nid_fits in
    let e = searched_at keys count i h.iv pdu r.held r.none_before (tried_sealed key i h s f) in
    opening_of_law keys count key.nid h.iv pdu current (omega arith) (omega arith) o.0
    (ap (iv_index_heard current) o.1 ∙ heard_of_index current h.iv r.near) (omega arith) e w.allowed
