-- A header that was opened has 16 places of transport, since every header has, and a unicast source, since refusal 4 lets no other pass.
-- Assumes nothing.
use mathlib.Core.Bool.{true, ◌&&◌}
use mathlib.Core.List.{List}
use mathlib.Core.Path.{◌≡◌, subst}
use Prim.Native.Nat.{ℕ, ◌/◌, ◌%◌}
use lib.Dec.{eqb, ltb}
use lib.ListN.{length, get_or, drop}
use Rattle.std.specs.Prelude.{Option, Some, None, IfSome, IfOk}
use Rattle.common.proofs.Lists.{length_tab}
use Rattle.common.proofs.Tests.{by_choice}
use Rattle.common.proofs.Trials.{tries_each}
use Rattle.keys.specs.declared.NetworkKeys.{NetworkKeys}
use Rattle.network.specs.declared.header.Header.{Header}
use Rattle.network.specs.declared.opening.Opening.{Opening}
use Rattle.network.specs.Address.{is_unicast, addresses_allowed}
use Rattle.network.specs.Candidates.{key_at, candidates, opens, found_by, searched}
use Rattle.network.specs.IvIndex.{iv_index_heard}
use Rattle.network.specs.Opening.{admitted, judged, under, opening}
use Rattle.network.specs.Pdu.{pdu_octets, front_of}
use Rattle.network.specs.Trial.{ctl_of, header_of, body_tried, tried}
use Rattle.network.proofs.AddressLaws.{allowed_source}
use Rattle.receiver.specs.declared.state.Receiver.{Receiver}
use Rattle.receiver.specs.Passing.{Opens}

-- what is sure of an opened header
pub record Clear (h : Header) : Type 0 where
  pub places : length h.transport ≡ 16
  pub unicast : is_unicast h.src ≡ true

abbrev ClearOf : Opening → Type 0
ClearOf o = IfOk o.opened Clear

-- ---- every header has 16 places
abbrev Places : Header → Type 0
Places h = length h.transport ≡ 16

header_places : (place iv : ℕ) (front body : List ℕ) → Places (header_of place iv front body)
unfolding header_of
header_places place iv front body = length_tab (λ i. get_or (drop 2 body) i 0) 16

abbrev PlacesIn : Option Header → Type 0
PlacesIn o = IfSome o Places

tried_places : (key : NetworkKeys) (place iv : ℕ) (pdu : List ℕ) → PlacesIn (tried key place iv pdu)
unfolding tried
tried_places key place iv pdu =
    let front = front_of key iv pdu in
    let body = body_tried key iv front pdu in
    by_choice PlacesIn (ctl_of front && ltb (length pdu) 18) (λ t. tt {0})
    (λ t. by_choice PlacesIn body.answer (λ u. header_places place iv front body.buffer) (λ u. tt {0}))

searched_places : (keys : List NetworkKeys) (count nid iv : ℕ) (pdu : List ℕ) → PlacesIn (searched keys count nid iv pdu).opened
unfolding searched
searched_places keys count nid iv pdu =
    let cs = candidates keys count nid in
    tries_each (opens keys iv pdu) 0 (λ t. PlacesIn (found_by keys iv pdu t).opened) cs
    (λ k _. let i = get_or cs k 0 in tried_places (key_at keys i) i iv pdu) (λ _. tt {0})

-- ---- refusal 4 lets no other source pass
admitted_clear : (o : Option Header) → PlacesIn o → IfOk (admitted o) Clear
admitted_clear None l = tt {0}
admitted_clear (Some h) l =
    by_choice (λ r. IfOk r Clear) (addresses_allowed h.ctl h.src h.dst)
    (λ u. record { places = l; unicast = allowed_source h.ctl h.src h.dst u })
    (λ u. tt {0})

-- ---- the call
under_clear : (keys : List NetworkKeys) (count : ℕ) (pdu : List ℕ) (i : Option ℕ) → ClearOf (under keys count pdu i)
unfolding under judged
under_clear keys count pdu None = tt {0}
under_clear keys count pdu (Some iv) =
    let nid = get_or pdu 0 0 % 128 in
    admitted_clear (searched keys count nid iv pdu).opened (searched_places keys count nid iv pdu)

opening_clear : (keys : List NetworkKeys) (count current : ℕ) (pdu : List ℕ) → ClearOf (opening keys count current pdu)
unfolding opening
opening_clear keys count current pdu =
    by_choice ClearOf (ltb (length pdu) 14) (λ t. tt {0})
    (λ t. by_choice ClearOf (ltb pdu_octets (length pdu)) (λ u. tt {0})
    (λ u. by_choice ClearOf (eqb (length (candidates keys count (get_or pdu 0 0 % 128))) 0) (λ v. tt {0})
    (λ v. under_clear keys count pdu (iv_index_heard current (get_or pdu 0 0 / 128)))))

pub opens_clear : {r : Receiver} {pdu fwd msg : List ℕ} {trials : ℕ} {h : Header} → Opens r pdu fwd msg trials h → Clear h
opens_clear {r} {pdu} p = subst ClearOf p.opens (opening_clear r.node.materials r.node.networks r.node.iv pdu)
