-- `Forwards`. What passes refusals 1 to 5 and 22 is cached, perhaps forwarded, and taken. Where it is to be forwarded, the key
-- that opened it seals it again: the receiver was set up, so its keys are derived by k2, which gives octets whatever it
-- is given; the octets that were heard and those of the cipher make a header within all limits of sealing, and its
-- length is the one that was heard (`Resealed`). So forwarding never meets a refusal, and its octets are as many as
-- were heard. Assumes nothing.
use mathlib.Core.List.{[]}
use mathlib.Core.Path.{sym, ap, ◌∙◌, subst}
use Prim.Native.Nat.{ℕ, ◌<◌, min}
use native.Mathlib.Omega.{arith}
use lib.ListN.{get_or}
use Rattle.std.specs.Prelude.{Result}
use Rattle.common.specs.Lent.{Lent, lent}
use Rattle.common.proofs.Tests.{by_test}
use Rattle.keys.proofs.Octets.{octets_encryption, octets_privacy}
use Rattle.network.specs.declared.sealing.Refusal.{Refusal}
use Rattle.network.specs.Candidates.{network_key_places, key_at}
use Rattle.network.specs.Resealed.{OctetKey}
use Rattle.network.specs.Sealing.{sealed_length, forwards}
use Rattle.network.proofs.Resealed.{resealed}
use Rattle.node.specs.declared.addresses.Node.{Node}
use Rattle.node.specs.Addresses.{is_local}
use Rattle.node.specs.Made.{WellMade}
use Rattle.receiver.proofs.Laws.Heard.{heard_forwarded, heard_kept}
use Rattle.demands.specs.Forwarding.{Forwards}

-- the keys of a node that setup made are of octets
pub octet_keys : (node : Node) → WellMade node → (i : ℕ) → i < min node.networks network_key_places → OctetKey (key_at node.materials i)
octet_keys node w i h =
    let given = (get_or node.netkeys i (record { octets = [] })).octets in
    subst OctetKey (sym (w.derived i (omega arith)))
    (record { encryption_octets = octets_encryption given; privacy_octets = octets_privacy given })

pub forwards_exactly : Forwards
forwards_exactly r pdu fwd msg trials h g p passes =
    let node = r.node in
    let x = passes.opened in
    let again = resealed node.materials node.networks node.iv pdu trials h fwd (octet_keys node g.node_made) p x.wide x.opens in
    by_test (forwards node.relay (is_local node h.dst) h)
    (λ t. rw t
    (heard_forwarded passes t
    ∙ ap (λ (f : Lent (Result ℕ Refusal)). lent (sealed_length f.answer) f.buffer) again))
    (λ t. rw t (heard_kept passes t))
