-- By any two replay lists that agree the receiver hears and gives up alike: nothing but look-up, room and insertion touches a list, and these agree. They do so for every source but 0,
-- and refusal 4 lets none of that source pass. Assumes nothing.
--   agree_hearing     a call that hears
--   agree_giving_up   a call that gives up a session
use mathlib.Core.Bool.{Bool}
use mathlib.Core.List.{List}
use mathlib.Core.Path.{◌≡◌, refl, ap}
use Rattle.std.specs.Prelude.{Ok, Err}
use Prim.Native.Nat.{ℕ}
use lib.Dec.{eqb, ltb}
use lib.ListN.{length, drop}
use Rattle.std.specs.Prelude.{Option, Some, None, Result, Ok, Err}
use Rattle.common.specs.Lent.{Lent, lent}
use Rattle.network.specs.declared.header.Header.{Header}
use Rattle.network.specs.declared.opening.Refusal as network_refusal
use Rattle.network.specs.declared.opening.Refusal.TheVariants as network
use Rattle.network.specs.Header.{transport_of}
use Rattle.network.specs.Pdu.{pdu_octets}
use Rattle.network.proofs.AddressLaws.{unicast_some}
use Rattle.transport.specs.declared.form.Form.{Form}
use Rattle.transport.specs.declared.form.Form.TheVariants as form
use Rattle.transport.specs.declared.form.SegmentFields.{SegmentFields}
use Rattle.transport.specs.declared.securing.Opened.{Opened}
use Rattle.transport.specs.declared.securing.Unopened.{Unopened}
use Rattle.transport.specs.declared.securing.Unopened.TheVariants.{NotOpened, ShortBuffer}
use Rattle.transport.specs.Form.{form_of}
use Rattle.transport.specs.Securing.{unsecuring}
use Rattle.transport.specs.Segment.{message_octets}
use Rattle.transport.specs.SeqAuth.{seq_auth}
use Rattle.memory.specs.declared.decision.Decision.TheVariants as decided
use Rattle.memory.specs.declared.decision.Refusal.TheVariants as declined
use Rattle.memory.specs.declared.replay.Entry.{Entry}
use Rattle.memory.specs.declared.session.Segment.{Segment}
use Rattle.memory.specs.declared.session.Session.{Session}
use Rattle.memory.specs.Cache.{seen}
use Rattle.memory.specs.Decision.{Decided, decision_by}
use Rattle.memory.specs.Replay.{Listing}
use Rattle.memory.specs.Session.{session_slots, no_session, session_at, session_place, begun, stored, complete}
use Rattle.memory.proofs.Agree.{Agree, agree_accepted, agree_handed_up, agree_decision}
use Rattle.node.specs.Addresses.{held_by, is_local, for_node}
use Rattle.receiver.specs.declared.answer.Refusal.{Refusal}
use Rattle.receiver.specs.declared.answer.Taken.{Taken}
use Rattle.receiver.specs.declared.give_up.GivenUp.{GivenUp}
use Rattle.receiver.specs.declared.state.Receiver.{Receiver}
use Rattle.receiver.specs.GiveUp.{giving_up}
use Rattle.receiver.specs.Hearing.{Outcome, outcome, relayed, taken_as_by, taken_by, passed_by, uncached_by, voiced_by, opened_as_by, hearing_by}
use Rattle.receiver.specs.Segmented.{segment_of, message_of, session_envelope, upgraded_by, control_up_by, access_up_as_by, access_up_by, gathered_by, placed_as_by, placed_by}
use Rattle.receiver.specs.Segmented.{segmented_as_by, segmented_by}
use Rattle.receiver.specs.State.{with_replay, with_session}
use Rattle.receiver.specs.Whole as whole
use Rattle.receiver.specs.Whole.{pair_of, whole_envelope, unless, admission_by, admitted_by, whole_access_by, whole_control_up_by, whole_control_by, acted_by, whole_acknowledgement_by}
use Rattle.receiver.proofs.Laws.Alike.{unlisted, Alike, alike_choice}
use Rattle.receiver.proofs.Laws.Heard.{opening_of, caching, opens_so}
use Rattle.receiver.proofs.Opened.{opens_clear}

-- ---- outcomes with the replay list emptied
abbrev bare_taken : Lent Taken → Lent Taken
bare_taken t = lent (record { answer = t.answer.answer; trials = t.answer.trials; receiver = unlisted t.answer.receiver }) t.buffer

abbrev pub bare_heard : Outcome → Outcome
bare_heard x =
    outcome
    (record {
      answer = x.heard.answer;
      network = x.heard.network;
      application = x.heard.application;
      forwarded = x.heard.forwarded;
      receiver = unlisted x.heard.receiver;
    })
    x.forward x.message

abbrev pub bare_given_up : GivenUp → GivenUp
bare_given_up x = record { answer = x.answer; receiver = unlisted x.receiver }

-- 9 and 11, or what an admitted message leaves: what holds on each way
by_unless :
    {A : Type 0} (R : A → A → Type 0) (a : Result Unit Refusal) {f g : Refusal → A} {t u : A} → ((m : Refusal) → R (f m) (g m)) → R t u → R (unless a f t) (unless a g u)
unfolding unless
by_unless R (Err m) refuses admits = refuses m
by_unless R (Ok _) refuses admits = admits

module _ {o n : Listing} {Both : List Entry → List Entry → Type 0} (agree : Agree o n Both) where
  abbrev AlikeTaken : Lent Taken → Lent Taken → Type 0
  AlikeTaken = Alike Both (λ (t : Lent Taken). t.answer.receiver) bare_taken

  module _ {a b : List Entry} (both : Both a b) where
    -- what is done by either list with its operations
    abbrev TakesAlike : (Listing → List Entry → Lent Taken) → Type 0
    TakesAlike f = AlikeTaken (f o a) (f n b)

    abbrev HearsAlike : (Listing → List Entry → Outcome) → Type 0
    HearsAlike f = Alike Both (λ (x : Outcome). x.heard.receiver) bare_heard (f o a) (f n b)

    -- ---- a segmented message is handed up
    module _ (r : Receiver) (s : Session) (msg : List ℕ) where
      agree_upgraded : Both (upgraded_by o (with_replay r a) s).replay (upgraded_by n (with_replay r b) s).replay
      unfolding upgraded_by
      agree_upgraded = agree_handed_up agree both s.src (record { auth = s.auth; segn = s.terms.segn; dst = s.terms.dst })

      agree_control_up : TakesAlike (λ by l. control_up_by by (with_replay r l) s msg)
      unfolding control_up_by upgraded_by
      agree_control_up = record { same = refl; lists = agree_upgraded }

      agree_access_as : (x : Result Opened Unopened) (left : List ℕ) → TakesAlike (λ by l. lent (access_up_as_by by (with_replay r l) s x) left)
      unfolding access_up_as_by upgraded_by
      agree_access_as (Ok o) left = record { same = refl; lists = agree_upgraded }
      agree_access_as (Err (NotOpened trials)) left = record { same = refl; lists = both }
      agree_access_as (Err ShortBuffer) left = record { same = refl; lists = both }

      agree_access_up : TakesAlike (λ by l. access_up_by by (with_replay r l) s msg)
      unfolding access_up_by
      agree_access_up = let x = unsecuring (held_by r.node) (session_envelope s) (message_of s) msg in agree_access_as x.answer x.buffer

    agree_gathered : (r : Receiver) (slot : ℕ) (s : Session) (msg : List ℕ) → TakesAlike (λ by l. gathered_by by (with_replay r l) slot s msg)
    unfolding gathered_by
    agree_gathered r slot s msg =
        let free = with_session r slot no_session in
        alike_choice (complete s) (λ _. alike_choice s.terms.ctl (λ _. agree_control_up free s msg) (λ _. agree_access_up free s msg))
        (λ _. record { same = refl; lists = both })

    -- ---- a header whose source is not 0
    module _ (r : Receiver) (h : Header) (sourced : h.src ≡ 0 → ⊥) (msg : List ℕ) where
      agree_placed_as : (d : Decided) (seg : Segment) → TakesAlike (λ by l. placed_as_by by d (with_replay r l) h seg msg)
      unfolding placed_as_by
      agree_placed_as (Err declined.Stale) seg = record { same = refl; lists = both }
      agree_placed_as (Err declined.Differs) seg = record { same = refl; lists = both }
      agree_placed_as (Err declined.NoEntryLeft) seg = record { same = refl; lists = both }
      agree_placed_as (Err declined.NoSlotLeft) seg = record { same = refl; lists = both }
      agree_placed_as (Ok (decided.Repeat bits)) seg = record { same = refl; lists = both }
      agree_placed_as (Ok (decided.Join slot)) seg = agree_gathered r slot (stored (session_at r.sessions slot) h seg.sego) msg
      agree_placed_as (Ok (decided.Open slot)) seg = agree_gathered r slot (stored (begun h.src seg) h seg.sego) msg

      agree_placed : (seg : Segment) → TakesAlike (λ by l. placed_by by (with_replay r l) h seg msg)
      unfolding placed_by
      agree_placed seg = rw (agree_decision agree both r.sessions h.src seg sourced) (agree_placed_as (decision_by n b r.sessions h.src seg) seg)

      agree_segmented_as : (s : Option ℕ) (fields : SegmentFields) → TakesAlike (λ by l. segmented_as_by by s (with_replay r l) h fields msg)
      unfolding segmented_as_by
      agree_segmented_as None fields = record { same = refl; lists = both }
      agree_segmented_as (Some auth) fields = agree_placed (segment_of h fields auth)

      agree_segmented : (fields : SegmentFields) → TakesAlike (λ by l. segmented_by by (with_replay r l) h fields msg)
      unfolding segmented_by
      agree_segmented fields = agree_segmented_as (seq_auth h.seq fields.seqzero) fields

      -- ---- a message in one PDU
      agree_admission : admission_by o a h ≡ admission_by n b h
      unfolding admission_by
      agree_admission = rw (agree.looks both h.src sourced, agree.rooms both h.src sourced) refl

      agree_unless :
          {A : Type 0} (R : A → A → Type 0) {f g : Refusal → A} {t u : A}
          → ((m : Refusal) → R (f m) (g m)) → R t u → R (unless (admission_by o a h) f t) (unless (admission_by n b h) g u)
      agree_unless R refuses admits = rw agree_admission (by_unless R (admission_by n b h) refuses admits)

      agree_admitted : Both (admitted_by o (with_replay r a) h).replay (admitted_by n (with_replay r b) h).replay
      unfolding admitted_by
      agree_admitted = agree_accepted agree both h.src (pair_of h)

      agree_opened_as : (x : Result Opened Unopened) (left : List ℕ) → TakesAlike (λ by l. lent (whole.opened_as_by by (with_replay r l) h x) left)
      unfolding whole.opened_as_by admitted_by
      agree_opened_as (Ok o) left = record { same = refl; lists = agree_admitted }
      agree_opened_as (Err (NotOpened trials)) left = record { same = refl; lists = both }
      agree_opened_as (Err ShortBuffer) left = record { same = refl; lists = both }

      agree_access : (akf : Bool) (aid : ℕ) → TakesAlike (λ by l. whole_access_by by (with_replay r l) h akf aid msg)
      unfolding whole_access_by whole.opened_whole_by
      agree_access akf aid =
          let x = unsecuring (held_by r.node) (whole_envelope h akf aid) (drop 1 (transport_of h)) msg in
          agree_unless AlikeTaken (λ _. record { same = refl; lists = both }) (agree_opened_as x.answer x.buffer)

      agree_control : (opcode : ℕ) → TakesAlike (λ by l. whole_control_by by (with_replay r l) h opcode msg)
      unfolding whole_control_by whole_control_up_by admitted_by
      agree_control opcode = agree_unless AlikeTaken (λ _. record { same = refl; lists = both }) (record { same = refl; lists = agree_admitted })

      agree_acknowledgement : (obo : Bool) (seq_zero bits : ℕ) → TakesAlike (λ by l. lent (whole_acknowledgement_by by (with_replay r l) h obo seq_zero bits) msg)
      unfolding whole_acknowledgement_by acted_by admitted_by
      agree_acknowledgement obo seq_zero bits =
          agree_unless (λ (t u : Taken). AlikeTaken (lent t msg) (lent u msg)) (λ _. record { same = refl; lists = both })
          (record { same = refl; lists = agree_admitted })

      -- ---- a PDU that is in the cache
      agree_taken_as : (f : Option Form) → TakesAlike (λ by l. taken_as_by by f (with_replay r l) h msg)
      unfolding taken_as_by
      agree_taken_as None = record { same = refl; lists = both }
      agree_taken_as (Some (form.Access akf aid)) = agree_access akf aid
      agree_taken_as (Some (form.AccessSegment akf aid fields)) = agree_segmented fields
      agree_taken_as (Some (form.Control opcode)) = agree_control opcode
      agree_taken_as (Some (form.ControlSegment opcode fields)) = agree_segmented fields
      agree_taken_as (Some (form.Acknowledgement obo seq_zero bits)) = agree_acknowledgement obo seq_zero bits

      agree_taken : TakesAlike (λ by l. taken_by by (with_replay r l) h msg)
      unfolding taken_by
      agree_taken = alike_choice (for_node r.node h.dst) (λ _. agree_taken_as (form_of h)) (λ _. record { same = refl; lists = both })

    -- ---- a PDU that opens
    module _ (r : Receiver) (h : Header) (trials : ℕ) (fwd msg : List ℕ) where
      agree_passed : (h.src ≡ 0 → ⊥) → HearsAlike (λ by l. passed_by by (with_replay r l) h trials fwd msg)
      unfolding passed_by
      agree_passed sourced =
          let f = relayed r.node h fwd in
          let k = agree_taken (caching r h) h sourced msg in
          record {
            same =
                ap
                (λ (t : Lent Taken).
                outcome
                (record { answer = t.answer.answer; network = trials; application = t.answer.trials; forwarded = f.answer; receiver = t.answer.receiver })
                f.buffer t.buffer)
                k.same;
            lists = k.lists;
          }

      agree_uncached : (h.src ≡ 0 → ⊥) → HearsAlike (λ by l. uncached_by by (with_replay r l) h trials fwd msg)
      unfolding uncached_by
      agree_uncached sourced = alike_choice (seen r.cache h) (λ _. record { same = refl; lists = both }) (λ _. agree_passed sourced)

      agree_voiced : (h.src ≡ 0 → ⊥) → HearsAlike (λ by l. voiced_by by (with_replay r l) h trials fwd msg)
      unfolding voiced_by
      agree_voiced sourced = alike_choice (is_local r.node h.src) (λ _. record { same = refl; lists = both }) (λ _. agree_uncached sourced)

    agree_heard_as :
        (r : Receiver) (trials : ℕ) (fwd msg : List ℕ) (x : Result Header network_refusal.Refusal) → ((h : Header) → x ≡ Ok h → h.src ≡ 0 → ⊥)
        → HearsAlike (λ by l. opened_as_by by x (with_replay r l) trials fwd msg)
    unfolding opened_as_by
    agree_heard_as r trials fwd msg (Err network.WrongLength) sourced = record { same = refl; lists = both }
    agree_heard_as r trials fwd msg (Err network.NoCandidate) sourced = record { same = refl; lists = both }
    agree_heard_as r trials fwd msg (Err network.NotAuthentic) sourced = record { same = refl; lists = both }
    agree_heard_as r trials fwd msg (Err network.WrongAddress) sourced = record { same = refl; lists = both }
    agree_heard_as r trials fwd msg (Ok h) sourced = agree_voiced r h trials fwd msg (sourced h refl)

  -- ---- the calls
  pub agree_hearing :
      (r : Receiver) {a b : List Entry} → Both a b → (pdu fwd msg : List ℕ)
      → Alike Both (λ x. x.heard.receiver) bare_heard (hearing_by o (with_replay r a) pdu fwd msg) (hearing_by n (with_replay r b) pdu fwd msg)
  unfolding hearing_by
  agree_hearing r both pdu fwd msg =
      let x = opening_of r pdu in
      alike_choice (ltb (length fwd) pdu_octets) (λ _. record { same = refl; lists = both })
      (λ t. alike_choice (ltb (length msg) message_octets) (λ _. record { same = refl; lists = both })
      (λ u. agree_heard_as both r x.trials fwd msg x.opened
      (λ h e. unicast_some h.src (opens_clear (opens_so r fwd msg pdu t u e)).unicast)))

  pub agree_giving_up :
      (r : Receiver) {a b : List Entry} → Both a b → (src : ℕ) → Alike Both (λ x. x.receiver) bare_given_up (giving_up (with_replay r a) src) (giving_up (with_replay r b) src)
  unfolding giving_up
  agree_giving_up r both src =
      alike_choice (eqb src 0) (λ _. record { same = refl; lists = both })
      (λ _. alike_choice (ltb (session_place r.sessions (record { src = src })) session_slots)
      (λ _. record { same = refl; lists = both }) (λ _. record { same = refl; lists = both }))
