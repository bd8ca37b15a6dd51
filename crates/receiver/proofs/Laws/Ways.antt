-- The ways a call can end. Behind the cache a PDU is refused and nothing changes, a segment is stored or repeats, a message is handed up, whole or from a completed session, an
-- acknowledgement is acted on, or a completed session is freed whose message no key opens. What holds on each of these ways holds of the call: one walk down the definition of
-- `taken`, with what was tested on the way. That 13 leaves the buffer is transport's law about securing, and 16 cannot come back from there since the buffer's length was
-- tested first. Assumes nothing.
--   Goes         the session that a segment goes to
--   goes_..      its slot, and its key
--   frees_slot   whether a refusal frees the slot of a completed session
--   Ways         what holds on each way of a PDU that passes the cache
--   walk_taken   so it holds of what such a PDU leaves
--   walk_left    what r has, and what each way leaves, has the receiver that a call leaves
use mathlib.Core.Bool.{Bool, true, false, ◌&&◌}
use mathlib.Core.List.{List}
use mathlib.Core.Logic.{◌⊎◌, inl, inr, ⊎_elim}
use mathlib.Core.Path.{◌≡◌, refl, sym, ap, ◌∙◌, subst}
use Prim.Native.Nat.{ℕ, ◌≤◌, ◌<◌}
use native.Mathlib.Omega.{arith}
use lib.Dec.{eqb}
use lib.ListN.{length, drop}
use Rattle.std.specs.Prelude.{Option, Some, None, Result, Ok, Err, if◌then◌else◌}
use Rattle.common.specs.Lent.{Lent, lent}
use Rattle.common.specs.Paper.{number_of}
use Rattle.common.proofs.Tests.{by_choice}
use Rattle.network.specs.declared.header.Header.{Header}
use Rattle.network.specs.Header.{transport_of}
use Rattle.transport.specs.declared.form.Form.{Form}
use Rattle.transport.specs.declared.form.Form.TheVariants as form
use Rattle.transport.specs.declared.form.SegmentFields.{SegmentFields}
use Rattle.transport.specs.declared.securing.Envelope.{Envelope}
use Rattle.transport.specs.declared.securing.Opener.{Opener}
use Rattle.transport.specs.declared.securing.Opened.{Opened}
use Rattle.transport.specs.declared.securing.Unopened.{Unopened}
use Rattle.transport.specs.declared.securing.Unopened.TheVariants.{NotOpened, ShortBuffer}
use Rattle.transport.specs.Form.{form_of, is_segment}
use Rattle.transport.specs.Ranges.{InRange}
use Rattle.transport.specs.Securing.{opened, unsecuring, paper}
use Rattle.transport.specs.SeqAuth.{seq_auth}
use Rattle.transport.proofs.Ranges.{keeps_to_ranges}
use Rattle.transport.proofs.ReadsBack.{seg_o_fits}
use Rattle.transport.proofs.SecureOpen.{unsecuring_refused_keeps, unsecuring_short}
use Rattle.transport.specs.Segment.{message_octets}
use Rattle.memory.specs.declared.decision.Decision.TheVariants as decided
use Rattle.memory.specs.declared.decision.Refusal.TheVariants as declined
use Rattle.memory.specs.declared.pair.Pair.{Pair}
use Rattle.memory.specs.declared.session.Segment.{Segment}
use Rattle.memory.specs.declared.session.Session.{Session}
use Rattle.memory.specs.declared.replay.Entry.{Entry}
use Rattle.memory.specs.Decision.{Decided, decision}
use Rattle.memory.specs.Replay.{stale, look_up, has_room}
use Rattle.memory.specs.Session.{session_slots, no_session, session_at, session_key, segment_key, begun, stored, complete, block_ack}
use Rattle.memory.proofs.SessionSlots.{session_key_law}
use Rattle.memory.proofs.Within.{Joins, Opens, joins_opens, Within, decision_within}
use Rattle.node.specs.Addresses.{for_node, held_by}
use Rattle.receiver.specs.declared.answer.Answer.TheVariants.{Stored, Repeated}
use Rattle.receiver.specs.declared.answer.Refusal.{Refusal}
use Rattle.receiver.specs.declared.answer.Refusal.TheVariants as refusal
use Rattle.receiver.specs.declared.answer.Taken.{Taken}
use Rattle.receiver.specs.declared.state.Receiver.{Receiver}
use Rattle.receiver.specs.Answer.{refusal_number}
use Rattle.receiver.specs.Hearing.{Outcome, taken_as, taken_as_by, taken, taken_by, passed, passed_by, hearing}
use Rattle.receiver.specs.Segmented.{segment_of, message_of, session_envelope, control_up, access_up_as, access_up, gathered, placed_as, segmented_as, segmented}
use Rattle.receiver.specs.Segmented.{access_up_as_by, access_up_by, gathered_by, placed_as_by, placed_by, segmented_as_by, segmented_by}
use Rattle.receiver.specs.State.{with_session}
use Rattle.receiver.specs.Whole.{refused_at, pair_of, admission, admission_by, whole_envelope, opened_as, unless, whole_access, whole_control_up, whole_control, acted, whole_acknowledgement}
use Rattle.receiver.specs.Whole.{opened_as_by, opened_whole_by, whole_access_by, whole_control_by, whole_acknowledgement_by}
use Rattle.receiver.proofs.Laws.Heard.{late, caching, PassesSo, walk_hearing}

-- the session s that a segment goes to: its source's own, on whose terms it is, or one begun
pub record Goes (q : Receiver) (h : Header) (seg : Segment) (slot : ℕ) (s : Session) : Type 0 where
  pub seg_n_fits : seg.terms.segn < 32
  pub seg_o_most : seg.sego ≤ seg.terms.segn
  pub stands : (Joins q.sessions h.src seg slot × (s ≡ session_at q.sessions slot)) ⊎ (Opens q.sessions (segment_key h.src seg) slot × (s ≡ begun h.src seg))

-- it might have been opened there
pub goes_opens : {q : Receiver} {h : Header} {seg : Segment} {slot : ℕ} {s : Session} → Goes q h seg slot s → Opens q.sessions (segment_key h.src seg) slot
goes_opens g = ⊎_elim (λ j. joins_opens j.0) (λ j. j.0) g.stands

-- it is found by the segment's key
pub goes_key :
    {q : Receiver} {h : Header} {seg : Segment} {slot : ℕ} {s : Session} → length q.sessions ≡ session_slots → Goes q h seg slot s → session_key s ≡ segment_key h.src seg
unfolding begun
goes_key {q} {h} {seg} long g =
    ⊎_elim
    (λ j.
    let i = j.0.within in
    ap session_key j.1 ∙ rw j.0.own (session_key_law q.sessions (segment_key h.src seg) (omega (arith, j.0.own))))
    (λ j. ap session_key j.1) g.stands

-- 13 of a segment, whose session is complete by then
abbrev pub frees_slot : Header → Refusal → Bool
frees_slot h n = eqb (refusal_number n) 13 && is_segment (form_of h)

-- what holds on each way behind the cache
pub record Ways (q : Receiver) (h : Header) (msg : List ℕ) (P : Lent Taken → Type 0) : Type 0 where
  -- 6 to 13, and 13 of a whole message: nothing changed
  pub refuses : (n : Refusal) (trials : ℕ) → late n ≡ true → frees_slot h n ≡ false → P (lent (refused_at q n trials) msg)
  -- a message in one PDU
  pub access_whole : (opener : Opener) (trials len : ℕ) (left : List ℕ) → P (lent (opened_as q h (opened opener trials len)) left)
  pub control_whole : (opcode : ℕ) → P (whole_control_up q h opcode msg)
  pub acknowledges : (obo : Bool) (seq_zero bits : ℕ) → P (lent (acted q h obo seq_zero bits) msg)
  -- a segment that has come already, and one more
  pub repeats : (auth : Pair) (bits : ℕ) → P (lent (record { answer = Ok (Repeated h.src auth bits); trials = 0; receiver = q }) msg)
  pub stores :
      (seg : Segment) (slot : ℕ) (before : Session) → Goes q h seg slot before
      → (let s = stored before h seg.sego in
      complete s ≡ false → P (lent (record { answer = Ok (Stored s.src s.auth (block_ack s)); trials = 0; receiver = with_session q slot s }) msg))
  -- the session is complete, and its slot is freed
  pub access_gathered :
      (seg : Segment) (slot : ℕ) (before : Session) → Goes q h seg slot before → (opener : Opener) (trials len : ℕ) (left : List ℕ)
      → P (lent (access_up_as (with_session q slot no_session) (stored before h seg.sego) (opened opener trials len)) left)
  pub control_gathered :
      (seg : Segment) (slot : ℕ) (before : Session) → Goes q h seg slot before
      → P (control_up (with_session q slot no_session) (stored before h seg.sego) msg)
  -- 13 of its message
  pub frees :
      (seg : Segment) (slot : ℕ) (before : Session) → Goes q h seg slot before → frees_slot h refusal.NotOpened ≡ true
      → (trials : ℕ) → P (lent (refused_at (with_session q slot no_session) refusal.NotOpened trials) msg)

-- 9 and 11 of a whole message are two of the refusals
by_admission :
    {A : Type 0} (P : A → Type 0) (replay : List Entry) (h : Header) {refuse : Refusal → A} {t : A}
    → ((n : Refusal) → late n ≡ true → frees_slot h n ≡ false → P (refuse n)) → P t → P (unless (admission replay h) refuse t)
unfolding unless admission_by
by_admission P replay h {refuse} {t} f p =
    let Q : Result Unit Refusal → Type 0 = λ a. P (unless a refuse t) in
    by_choice Q (stale (look_up replay h.src) (pair_of h)) (λ _. f refusal.Replayed refl refl)
    (λ _. by_choice Q (has_room replay h.src) (λ _. p) (λ _. f refusal.NoEntryLeft refl refl))

module _ (q : Receiver) (h : Header) (msg : List ℕ) (room : message_octets ≤ length msg) (P : Lent Taken → Type 0) (w : Ways q h msg P) where
  refused : (n : Refusal) → late n ≡ true → frees_slot h n ≡ false → P (lent (refused_at q n 0) msg)
  refused n = w.refuses n 0

  -- ---- a message is opened, or no key opens it
  module _ (t : Result Opened Unopened → Taken) (opens : (opener : Opener) (trials len : ℕ) (left : List ℕ) → P (lent (t (opened opener trials len)) left))
      (none : (trials : ℕ) → P (lent (t (Err (NotOpened trials))) msg)) where
    by_opened : (o : Result Opened Unopened) (left : List ℕ) → (0 < number_of (paper o) → left ≡ msg) → (o ≡ Err ShortBuffer → ⊥) → P (lent (t o) left)
    by_opened (Ok o) left e n = opens o.opener o.trials o.len left
    by_opened (Err (NotOpened trials)) left e n = subst (λ (b : List ℕ). P (lent (t (Err (NotOpened trials))) b)) (sym (e (omega arith))) (none trials)
    by_opened (Err ShortBuffer) left e n = absurd (n refl)

    by_unsecuring :
        (e : Envelope) (c : List ℕ)
        → (let u = unsecuring (held_by q.node) e c msg in P (lent (t u.answer) u.buffer))
    by_unsecuring e c =
        let u = unsecuring (held_by q.node) e c msg in
        by_opened u.answer u.buffer (unsecuring_refused_keeps (held_by q.node) e c msg)
        (λ s. omega (arith, unsecuring_short (held_by q.node) e c msg s))

  -- ---- whole messages
  walk_access : (akf : Bool) (aid : ℕ) → is_segment (form_of h) ≡ false → P (whole_access q h akf aid msg)
  unfolding whole_access_by opened_whole_by opened_as_by
  walk_access akf aid one =
      by_admission P q.replay h refused
      (by_unsecuring (opened_as q h) w.access_whole (λ trials. w.refuses refusal.NotOpened trials refl one) (whole_envelope h akf aid) (drop 1 (transport_of h)))

  walk_control : (opcode : ℕ) → P (whole_control q h opcode msg)
  unfolding whole_control_by
  walk_control opcode = by_admission P q.replay h refused (w.control_whole opcode)

  walk_acknowledgement : (obo : Bool) (seq_zero bits : ℕ) → P (lent (whole_acknowledgement q h obo seq_zero bits) msg)
  unfolding whole_acknowledgement_by
  walk_acknowledgement obo seq_zero bits = by_admission (λ (t : Taken). P (lent t msg)) q.replay h refused (w.acknowledges obo seq_zero bits)

  -- ---- segments
  module _ (many : is_segment (form_of h) ≡ true) (seg : Segment) (slot : ℕ) (before : Session) (g : Goes q h seg slot before) where
    walk_gathered : P (gathered q slot (stored before h seg.sego) msg)
    unfolding gathered_by access_up_by access_up_as_by
    walk_gathered =
        let s = stored before h seg.sego in
        let free = with_session q slot no_session in
        by_choice P (complete s) {x = if s.terms.ctl then control_up free s msg else access_up free s msg}
        (λ _. by_choice P s.terms.ctl {x = control_up free s msg} {y = access_up free s msg} (λ _. w.control_gathered seg slot before g)
        (λ _. by_unsecuring (access_up_as free s) (w.access_gathered seg slot before g) (w.frees seg slot before g many) (session_envelope s) (message_of s)))
        (w.stores seg slot before g)

  module _ (many : is_segment (form_of h) ≡ true) (seg : Segment) (n : seg.terms.segn < 32) (o : seg.sego ≤ seg.terms.segn) where
    walk_placed : (d : Decided) → Within q.sessions h.src seg d → P (placed_as d q h seg msg)
    unfolding placed_as_by
    walk_placed (Ok (decided.Repeat bits)) i = w.repeats seg.auth bits
    walk_placed (Ok (decided.Join slot)) i = walk_gathered many seg slot _ (record { seg_n_fits = n; seg_o_most = o; stands = inl (i, refl) })
    walk_placed (Ok (decided.Open slot)) i = walk_gathered many seg slot _ (record { seg_n_fits = n; seg_o_most = o; stands = inr (i, refl) })
    walk_placed (Err declined.Stale) i = refused refusal.Replayed refl refl
    walk_placed (Err declined.Differs) i = refused refusal.Differs refl refl
    walk_placed (Err declined.NoEntryLeft) i = refused refusal.NoEntryLeft refl refl
    walk_placed (Err declined.NoSlotLeft) i = refused refusal.NoSlotLeft refl refl

  module _ (many : is_segment (form_of h) ≡ true) (fields : SegmentFields) (full : ℕ) (i : InRange fields h.len full) where
    walk_segmented_as : (a : Option ℕ) → P (segmented_as a q h fields msg)
    unfolding segmented_as_by placed_by
    walk_segmented_as None = refused refusal.NoSeqAuth refl refl
    walk_segmented_as (Some auth) =
        let seg = segment_of h fields auth in
        walk_placed many seg i.seg_n_fits (seg_o_fits fields h.len full i) (decision q.replay q.sessions h.src seg) (decision_within q.replay q.sessions h.src seg)

    walk_segmented : P (segmented q h fields msg)
    unfolding segmented_by
    walk_segmented = walk_segmented_as (seq_auth h.seq fields.seqzero)

  -- ---- by the form
  walk_form : (f : Option Form) → form_of h ≡ f → P (taken_as f q h msg)
  unfolding taken_as_by
  walk_form None e = refused _ refl refl
  walk_form (Some (form.Access akf aid)) e = walk_access akf aid (ap is_segment e)
  walk_form (Some (form.AccessSegment akf aid fields)) e = walk_segmented (ap is_segment e) fields 16 (keeps_to_ranges h _ e).2
  walk_form (Some (form.Control opcode)) e = walk_control opcode
  walk_form (Some (form.ControlSegment opcode fields)) e = walk_segmented (ap is_segment e) fields 12 (keeps_to_ranges h _ e).2
  walk_form (Some (form.Acknowledgement obo seq_zero bits)) e = walk_acknowledgement obo seq_zero bits

  pub walk_taken : P (taken q h msg)
  unfolding taken_by
  walk_taken =
      by_choice P (for_node q.node h.dst) {x = taken_as (form_of h) q h msg} (λ _. walk_form (form_of h) refl) (λ _. refused refusal.NotForNode refl refl)

-- ---- what a call leaves of the receiver
module _ (r : Receiver) (pdu fwd msg : List ℕ) (P : Receiver → Type 0) where
  abbrev WaysLeft : Header → Type 0
  WaysLeft h = Ways (caching r h) h msg (λ t. P t.answer.receiver)

  left_passed : {h : Header} → WaysLeft h → message_octets ≤ length msg → (trials : ℕ) → P (passed r h trials fwd msg).heard.receiver
  unfolding passed_by
  left_passed {h} w room trials = walk_taken (caching r h) h msg room (λ t. P t.answer.receiver) w

  pub walk_left : P r → ((h : Header) → PassesSo r fwd msg pdu h → WaysLeft h) → P (hearing r pdu fwd msg).heard.receiver
  walk_left p w = walk_hearing r fwd msg pdu (λ (o : Outcome). P o.heard.receiver) (λ _ _ _. p) (λ h x. left_passed (w h x) x.opened.big _)
