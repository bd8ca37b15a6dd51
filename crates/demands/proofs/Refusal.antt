-- What each refusal leaves, read off how a call ends (Ends). Behind the cache it is the receiver that cached the PDU, and only 13 of a segment has freed a slot: the one that the
-- segment went to; forwarding is worked out beside all that. A refusal before the cache has no such number. A PDU that no key opens does not open, and is refused before the
-- cache. Assumes nothing.
use mathlib.Core.Bool.{true, ◌&&◌, ◌||◌, false≢true}
use mathlib.Core.Logic.{⊎_elim}
use mathlib.Core.Path.{◌≡◌, ap}
use Prim.Native.Nat.{ℕ}
use native.Mathlib.Omega.{arith}
use borrow.Author.Tests.{eqb-true, leb-true, le-leb}
use lib.Dec.{eqb, leb}
use Rattle.std.specs.Prelude.{Result, Ok}
use Rattle.common.specs.Paper.{number_of}
use Rattle.common.proofs.Tests.{by_test, and_first, and_second}
use Rattle.network.specs.declared.header.Header.{Header}
use Rattle.network.specs.declared.opening.Opening.{Opening}
use Rattle.network.specs.declared.opening.Refusal as network_refusal
use Rattle.network.specs.Opening.{opening}
use Rattle.receiver.specs.Answer.{refusal_number, paper}
use Rattle.receiver.specs.Hearing.{hearing}
use Rattle.receiver.proofs.Laws.Heard.{heard_unopened}
use Rattle.demands.specs.Refusal.{MessageStays, EverythingStays, no_key_opens, UnopenedLeaves, LateLeaves}
use Rattle.demands.proofs.Ends.{untouched, refused_kind, ends}

pub message_stays : MessageStays
message_stays r c = (ends r c).message_stays

pub everything_stays : EverythingStays
everything_stays r c = (ends r c).everything

-- ---- behind the cache
-- 6 to 13 are none of 16, 22 and 1 to 5
early_late : (n : ℕ) → eqb n 16 || (eqb n 22 || leb n 5) ≡ true → leb 6 n && leb n 13 ≡ true → ⊥
early_late n e l =
    let least = leb-true 6 n (and_first (leb 6 n) (leb n 13) l) in
    let most = leb-true n 13 (and_second (leb 6 n) (leb n 13) l) in
    by_test (eqb n 16) (λ t. let b = eqb-true n 16 t in omega arith)
    (λ t. by_test (eqb n 22) (λ u. let b = eqb-true n 22 u in omega arith)
    (λ u.
    let low : leb n 5 ≡ true = rw (t, u) at e in
    let b = leb-true n 5 low in
    omega arith))

pub late_leaves : LateLeaves
late_leaves r pdu fwd msg l =
    let n = number_of (paper (hearing r pdu fwd msg).heard.answer) in
    let least = leb-true 6 n (and_first (leb 6 n) (leb n 13) l) in
    let k = refused_kind r pdu fwd msg (le-leb 1 n (omega arith)) in
    ⊎_elim (λ y. absurd (early_late (refusal_number k.0) y.is_early (rw k.1 at l)))
    (λ x. (x.0, ap (λ (o : Opening). o.opened) x.1.opened.opens, record { receiver_left = rw k.1 x.2.left_is; forwarded_as = x.2.forwarded_as })) k.2

-- ---- a PDU that no key opens
pub unopened : (a : Result Header network_refusal.Refusal) → no_key_opens a ≡ true → (h : Header) → a ≡ Ok h → ⊥
unopened a t h e = false≢true (rw e at t)

pub unopened_leaves : UnopenedLeaves
unopened_leaves r pdu fwd msg t =
    let y = heard_unopened r fwd msg pdu (unopened (opening r.node.materials r.node.networks r.node.iv pdu).opened t) in
    untouched r pdu fwd msg y.0 _ y.1
