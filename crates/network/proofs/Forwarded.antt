-- `Forwarded`, `OpenForwarded`: a header stays sealable with TTL less 1, and neither the length of its PDU nor its form knows TTL; the rest is `OpenSeal`.
-- Assumes nothing.
use mathlib.Core.Bool.{true}
use mathlib.Core.Path.{◌≡◌, refl, sym, ◌∙◌}
use native.Mathlib.Omega.{arith}
use borrow.Author.Tests.{lt-ltb, le-ltb}
use lib.ListN.{length}
use Rattle.keys.specs.declared.NetworkKeys.{NetworkKeys}
use Rattle.network.specs.declared.header.Header.{Header}
use Rattle.network.specs.Candidates.{network_key_places, key_at}
use Rattle.network.specs.SealOpen.{Formed}
use Rattle.network.specs.Sealing.{sealable, lowered, forwarding}
use Rattle.network.specs.Forwarded.{Forwarded, OpenForwarded}
use Rattle.network.proofs.Sealed.{pdu_length, within, sealable_where, room}
use Rattle.network.proofs.SealingLaws.{seal_sealed}
use Rattle.network.proofs.SealOpen.{open_seal}
use Rattle.network.specs.Pdu.{pdu_octets}

sealable_lowered : (key : NetworkKeys) (h : Header) → sealable key h ≡ true → sealable key (lowered h) ≡ true
sealable_lowered key h s =
    let w = within key h s in
    let t = w.ttl_fits in
    sealable_where key (lowered h) w.nid_fits (omega arith) w.seq_fits w.allowed w.some_transport w.most_transport_law

formed_lowered : (h : Header) → Formed h → Formed (lowered h)
formed_lowered h f = record { dst_fits = f.dst_fits; zeros_behind = f.zeros_behind }

pub forwarded : Forwarded
unfolding forwarding
forwarded keys h buf k s f b =
    let key = key_at keys h.key in
    let there = room key h (within key h s) f in
    simp (le-ltb (length buf) pdu_octets b, lt-ltb h.key network_key_places k)
    (sym (seal_sealed key (lowered h) buf b (sealable_lowered key h s) (pdu_length key h there ∙ sym (pdu_length key (lowered h) there)) refl))

pub open_forwarded : OpenForwarded
open_forwarded keys count current h s f r =
    open_seal keys count current (lowered h) (sealable_lowered (key_at keys h.key) h s) (formed_lowered h f) r
