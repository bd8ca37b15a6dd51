-- A reserved address is for no node, so what passes refusals 1 to 5 and 22 is refused 6; it is no element's, whose addresses are unicast, so forwarding asks for relay and TTL alone. Setup lets
-- only groups in, and a request names a unicast address or a group. A segment goes where its message was begun to, and an acknowledgement to a source that has a session or
-- a message handed up: only a PDU gives it either, and its SRC is unicast. Assumes nothing.
use mathlib.Core.Bool.{Bool, true, false, true≢false, false≢true, ◌&&◌}
use mathlib.Core.List.{List, [], ◌∷◌}
use mathlib.Core.Path.{◌≡◌, refl, sym, ap, ◌∙◌}
use Prim.Native.Nat.{ℕ}
use lib.Dec.{leb}
use lib.ListN.{length, get_or}
use Rattle.std.specs.Prelude.{Option, None, Some}
use Rattle.common.specs.Lent.{Lent}
use Rattle.common.proofs.Tests.{by_test}
use Rattle.network.specs.declared.header.Header.{Header}
use Rattle.network.specs.Address.{is_unicast, is_reserved}
use Rattle.network.specs.Sealing.{forwards}
use Rattle.network.proofs.AddressLaws.{unicast_some, reserved_some, reserved_not_unicast}
use Rattle.memory.specs.declared.outgoing.Outgoing.{Outgoing}
use Rattle.memory.specs.declared.session.SessionKey.{SessionKey}
use Rattle.memory.specs.Replay.{no_entry}
use Rattle.memory.proofs.ReplayMap.{look_up_nowhere}
use Rattle.memory.proofs.SessionSlots.{place_nowhere}
use Rattle.node.specs.declared.setup.Setup.{Setup}
use Rattle.node.specs.Addresses.{is_local}
use Rattle.node.proofs.Addressed.{group_spared, reserved_never}
use Rattle.node.proofs.SetupLaws.{local_is_unicast, groups_given}
use Rattle.receiver.specs.declared.state.Receiver.{Receiver}
use Rattle.receiver.specs.Fresh.{setting_up}
use Rattle.receiver.specs.Good.{Good}
use Rattle.receiver.proofs.Opened.{opens_clear}
use Rattle.receiver.proofs.Laws.Fresh.{made, ready_made, fresh_is}
use Rattle.receiver.proofs.Laws.Heard.{heard_elsewhere}
use Rattle.receiver.proofs.Laws.Outgoing.{outgoing_heard}
use Rattle.receiver.proofs.Laws.Sources.{Lists, lists_fresh, lists_freed, lists_heard}
use Rattle.sending.specs.declared.acknowledge.Chosen.{Chosen}
use Rattle.sending.specs.declared.answer.Spoken.{Spoken}
use Rattle.sending.specs.Acknowledge.{chosen}
use Rattle.sending.proofs.Laws.Allowed.{access_allows, control_allows, asked_spared}
use Rattle.sending.proofs.Laws.Calls.{walk_access, walk_control, walk_acknowledge, chosen_none}
use Rattle.demands.specs.Call.{Call, Hear, GiveUp, SendAccess, SendControl, SendSegment, Acknowledge, Stop, made_by, step, after}
use Rattle.demands.specs.NeverTwice.{addressee}
use Rattle.demands.specs.Reserved.{ForNobody, GoesOn, NoneListened, NoneAsked, NoneSentTo}
use Rattle.demands.specs.Speech.{Access, Control}
use Rattle.demands.proofs.Forwarding.{forwards_exactly}
use Rattle.demands.proofs.Invariant.{good_after, good_step}
use Rattle.demands.proofs.Left.{walk_step}
use Rattle.sending.specs.Request.{dst_of}
use Rattle.sending.specs.Access.{access_allowed}
use Rattle.sending.specs.Control.{control_allowed}
use Rattle.receiver.proofs.Good.{good_fresh}

-- ---- heard
pub for_nobody : ForNobody
for_nobody r pdu fwd msg trials h p reserved =
    let l = heard_elsewhere p (reserved_never r.node h.dst reserved) in
    (l.answers, l.network_is, l.application_is)

-- where DST is no local address, relay and TTL decide
far : (relay : Bool) (h : Header) → forwards relay false h ≡ (relay && leb 2 h.ttl)
unfolding forwards
far relay h = by_test (relay && leb 2 h.ttl) (λ t. rw t refl) (λ t. rw t refl)

pub goes_on_law : GoesOn
goes_on_law r pdu fwd msg trials h good octets p reserved =
    let node = r.node in
    let not_local : is_local node h.dst ≡ false =
    by_test (is_local node h.dst)
    (λ t. absurd (true≢false (sym (local_is_unicast node good.node_made h.dst t) ∙ reserved_not_unicast h.dst reserved))) (λ t. t) in
    rw (not_local, far node.relay h) at (forwards_exactly r pdu fwd msg trials h good octets p)

-- ---- listened to
pub none_listened : NoneListened
none_listened s e i h = group_spared (get_or s.groups i 0) (groups_given s (made s) (ready_made s e) i h)

-- ---- asked for
pub none_asked : NoneAsked
none_asked r q (Access key szmic payload) buf made =
    let P : Lent Spoken → Type 0 = λ s. made_by s.answer.answer ≡ true → is_reserved (dst_of r.node q.dst) ≡ false in
    let spared : access_allowed r q key szmic (length payload) ≡ true → is_reserved (dst_of r.node q.dst) ≡ false =
    λ a. asked_spared made (access_allows r q key szmic (length payload) a).asks in
    walk_access r buf P (λ _ _ m. absurd (false≢true m)) q key szmic payload (λ a _ _. spared a) (λ a _ _. spared a)
none_asked r q (Control opcode parameters) buf made =
    let P : Lent Spoken → Type 0 = λ s. made_by s.answer.answer ≡ true → is_reserved (dst_of r.node q.dst) ≡ false in
    let spared : control_allowed r q opcode (length parameters) ≡ true → is_reserved (dst_of r.node q.dst) ≡ false =
    λ a. asked_spared made (control_allows r q opcode (length parameters) a).asks in
    walk_control r buf P (λ _ _ m. absurd (false≢true m)) q opcode parameters (λ a _ _. spared a) (λ a _ _. spared a)

-- ---- sent to
-- no reserved address is listed, and no message to one is kept
abbrev Spared : ℕ → Type 0
Spared a = is_reserved a ≡ false

abbrev Spares : Receiver → Type 0
Spares r = Lists Spared r × Spared r.out.terms.dst

zero_spared : Spared 0
zero_spared = by_test (is_reserved 0) (λ t. absurd (reserved_some 0 t refl)) (λ t. t)

unicast_spared : (a : ℕ) → is_unicast a ≡ true → Spared a
unicast_spared a u = by_test (is_reserved a) (λ t. absurd (true≢false (sym u ∙ reserved_not_unicast a t))) (λ t. t)

spares_fresh : (s : Setup) → Spares (setting_up s).receiver
spares_fresh s = rw (fresh_is s) (lists_fresh Spared zero_spared (made s).node (made s).next, zero_spared)

spares_step : (r : Receiver) (c : Call) → Good r → Spares r → Spares (step r c).receiver
spares_step r c g s =
    walk_step r Spares
    (record {
      hears = λ pdu fwd msg. (
        lists_heard Spared zero_spared r s.0 pdu fwd msg (λ h p. unicast_spared _ (opens_clear p.opened).unicast),
        outgoing_heard (λ (o : Outgoing). Spared o.terms.dst) r zero_spared s.1 (λ _. s.1) fwd msg pdu,
      );
      frees = λ slot _. (lists_freed Spared zero_spared r s.0 slot, s.1);
      speaks =
          record { stays = s; sends = λ _ _. s; begins = λ _ _ o b. (s.0, rw b.to_whom (asked_spared (λ _. g.node_made) b.asks)); ends = (s.0, zero_spared) };
    }) c

spares_after : (r : Receiver) (l : List Call) → Good r → Spares r → Spares (after r l)
spares_after r [] g s = s
spares_after r (c ∷ l) g s = spares_after (step r c).receiver l (good_step r c g) (spares_step r c g s)

-- a source that is not listed is not acknowledged
unanswered : (r : Receiver) → Good r → Lists Spared r → (net src : ℕ) (buf : List ℕ) → is_reserved src ≡ true → (step r (Acknowledge net src buf)).made ≡ true → ⊥
unanswered r good s net src buf t =
    let other : (a : ℕ) → Spared a → a ≡ src → ⊥ = λ a u e. true≢false (sym t ∙ ap is_reserved (sym e) ∙ u) in
    let none_open = place_nowhere r.sessions good.sessions_kept.places (record { src = src }) (λ i e. other _ (s.held i) (ap (λ (k : SessionKey). k.src) e)) in
    let none_listed = look_up_nowhere r.replay src (λ i. other _ (s.entries i)) in
    let none = chosen_none r.replay r.sessions src (reserved_some src t) no_entry none_open none_listed refl in
    walk_acknowledge r buf (λ (s : Lent Spoken). made_by s.answer.answer ≡ true → ⊥) (λ _ _ m. false≢true m) net src
    (λ c chose _ _ _. let both : ◌≡◌ {A = Option Chosen} None (Some c) = sym none ∙ chose in cc)

spared : (r : Receiver) → Good r → Spares r → (c : Call) → (step r c).made ≡ true → Spared (addressee r c)
spared r g s (Hear pdu fwd msg) m = absurd (false≢true m)
spared r g s (GiveUp src) m = absurd (false≢true m)
spared r g s (SendAccess q key szmic payload buf) m = none_asked r q (Access key szmic payload) buf (λ _. g.node_made) m
spared r g s (SendControl q opcode parameters buf) m = none_asked r q (Control opcode parameters) buf (λ _. g.node_made) m
spared r g s (SendSegment n buf) m = s.1
spared r g s (Acknowledge net src buf) m = by_test (is_reserved src) (λ t. absurd (unanswered r g s.0 net src buf t m)) (λ t. t)
spared r g s Stop m = absurd (false≢true m)

pub none_sent_to : NoneSentTo
none_sent_to s l c e = spared (after (setting_up s).receiver l) (good_after s l e) (spares_after (setting_up s).receiver l (good_fresh s e) (spares_fresh s)) c
