-- A segment, by what stands in the receiver: it repeats, joins its source's session or opens one. A session with a segment more is stored, or complete and handed up.
-- Assumes nothing.
--   segmented_placed                             a segment whose SeqAuth is found is placed
--   placed_..                                    where, by what entry and session its source has
--   gathered_..                                  a session with a segment more
--   access_up_law, control_up_law, upgraded_is   a complete one
use mathlib.Core.Bool.{true, false}
use mathlib.Core.List.{List}
use mathlib.Core.Path.{◌≡◌, refl, ap}
use Prim.Native.Nat.{ℕ, ◌≤◌, ◌<◌}
use borrow.Author.Tests.{eq-eqb, ne_eqb}
use lib.ListN.{length, take}
use Rattle.std.specs.Prelude.{Ok, Some, if◌then◌else◌}
use Rattle.common.specs.Bits.{has_bit, all_bits}
use Rattle.common.specs.Lent.{Lent, lent}
use Rattle.common.specs.Lists.{onto}
use Rattle.network.specs.declared.header.Header.{Header}
use Rattle.transport.specs.declared.form.SegmentFields.{SegmentFields}
use Rattle.transport.specs.declared.securing.Opener.{Opener}
use Rattle.transport.specs.Fields.{opcode}
use Rattle.transport.specs.Securing.{opened, unsecuring}
use Rattle.transport.specs.SeqAuth.{seq_auth}
use Rattle.memory.specs.declared.session.Segment.{Segment}
use Rattle.memory.specs.declared.session.Session.{Session}
use Rattle.memory.specs.Replay.{look_up, stale, has_room, is_last, handed_up}
use Rattle.memory.specs.Session.{session_slots, no_session, session_at, segment_key, session_place, free_place, begun, stored, complete}
use Rattle.memory.proofs.Decided.{decide_last, decide_open, decide_repeat, decide_join}
use Rattle.node.specs.Addresses.{held_by}
use Rattle.receiver.specs.declared.answer.Answer.TheVariants as answer
use Rattle.receiver.specs.declared.answer.Taken.{Taken}
use Rattle.receiver.specs.declared.state.Receiver.{Receiver}
use Rattle.receiver.specs.Segmented.{segment_of, upgraded, message_of, session_envelope, access_up, control_up, gathered, placed, segmented}
use Rattle.receiver.specs.Segmented.{upgraded_by, access_up_as_by, access_up_by, control_up_by, gathered_by, placed_as_by, placed_by, segmented_as_by, segmented_by}
use Rattle.receiver.specs.State.{with_replay, with_session}

module _ (r : Receiver) (h : Header) (msg : List ℕ) where
  pub segmented_placed :
      (fields : SegmentFields) (auth : ℕ) → seq_auth h.seq fields.seqzero ≡ Some auth → segmented r h fields msg ≡ placed r h (segment_of h fields auth) msg
  unfolding segmented_by segmented_as_by
  segmented_placed fields auth e = rw e refl

-- ---- where it is placed, by what entry and session its source has
module _ (r : Receiver) (h : Header) (msg : List ℕ) (seg : Segment) where
  -- the slot of its session, and the lowest free one
  abbrev own : ℕ
  own = session_place r.sessions (segment_key h.src seg)

  abbrev free : ℕ
  free = free_place r.sessions

  abbrev repeats : ℕ → Lent Taken
  repeats bits = lent (record { answer = Ok (answer.Repeated h.src seg.auth bits); trials = 0; receiver = r }) msg

  -- it is of the last message handed up
  pub placed_last :
      (seg.terms.dst ≡ 0 → ⊥) → (look_up r.replay h.src).last ≡ record { auth = seg.auth; segn = seg.terms.segn; dst = seg.terms.dst }
      → placed r h seg msg ≡ repeats (all_bits seg.terms.segn)
  unfolding placed_by placed_as_by
  placed_last z e = rw (decide_last r.replay r.sessions h.src seg z e) refl

  -- it is not of that one, and there is room for an entry
  module _ (other : is_last (look_up r.replay h.src).last (record { auth = seg.auth; segn = seg.terms.segn; dst = seg.terms.dst }) ≡ false) (room : has_room r.replay h.src ≡ true)
    where
      -- the entry is not as new, there is no session, and a free slot
      pub placed_open :
          stale (look_up r.replay h.src) seg.auth ≡ false → session_slots ≤ own → free < session_slots
          → placed r h seg msg ≡ gathered r free (stored (begun h.src seg) h seg.sego) msg
      unfolding placed_by placed_as_by
      placed_open old out within = rw (decide_open r.replay r.sessions h.src seg other room old out within) refl

      -- a session of its SeqAuth and terms
      module _ (s : Session) (here : own < session_slots) (held : session_at r.sessions own ≡ s) (auth : s.auth ≡ seg.auth) (terms : s.terms ≡ seg.terms) where
        pub placed_repeat : has_bit s.filled seg.sego ≡ true → placed r h seg msg ≡ repeats s.filled
        unfolding placed_by placed_as_by
        placed_repeat b = rw (decide_repeat r.replay r.sessions h.src seg other room s here held auth terms b) refl

        pub placed_join : has_bit s.filled seg.sego ≡ false → placed r h seg msg ≡ gathered r own (stored s h seg.sego) msg
        unfolding placed_by placed_as_by
        placed_join b =
            rw (decide_join r.replay r.sessions h.src seg other room s here held auth terms b)
            (ap (λ (x : Session). gathered r own (stored x h seg.sego) msg) held)

-- ---- a session with a segment more
module _ (r : Receiver) (slot : ℕ) (s : Session) (msg : List ℕ) where
  -- another is missing
  pub gathered_stored :
      (s.filled ≡ all_bits s.terms.segn → ⊥)
      → gathered r slot s msg ≡ lent (record { answer = Ok (answer.Stored s.src s.auth s.filled); trials = 0; receiver = with_session r slot s }) msg
  unfolding gathered_by complete
  gathered_stored n = rw (ne_eqb s.filled (all_bits s.terms.segn) n) refl

  -- none is: it is handed up, and its slot is freed
  pub gathered_up :
      s.filled ≡ all_bits s.terms.segn
      → gathered r slot s msg
      ≡ (if s.terms.ctl then control_up (with_session r slot no_session) s msg else access_up (with_session r slot no_session) s msg)
  unfolding gathered_by complete
  gathered_up e = rw (eq-eqb s.filled (all_bits s.terms.segn) e) refl

module _ (r : Receiver) (s : Session) (msg : List ℕ) where
  pub access_up_law :
      (opener : Opener) (trials len : ℕ) (left : List ℕ)
      → unsecuring (held_by r.node) (session_envelope s) (take s.len s.bytes) msg
      ≡ lent (opened opener trials len) left
      → access_up r s msg
      ≡ lent (record { answer = Ok (answer.Access s.src s.terms.dst s.terms.key opener s.auth len); trials = trials; receiver = upgraded r s }) left
  unfolding access_up_by access_up_as_by message_of
  access_up_law opener trials len left u = rw u refl

  pub control_up_law :
      control_up r s msg
      ≡ lent
      (record {
        answer = Ok (answer.Control s.src s.terms.dst s.terms.key (opcode s.terms.first) s.auth (length (take s.len s.bytes)));
        trials = 0;
        receiver = upgraded r s;
      })
      (onto (take s.len s.bytes) msg)
  unfolding control_up_by message_of
  control_up_law = refl

  -- handing up raises the replay entry, and nothing else
  pub upgraded_is : upgraded r s ≡ with_replay r (handed_up r.replay s.src (record { auth = s.auth; segn = s.terms.segn; dst = s.terms.dst }))
  unfolding upgraded_by
  upgraded_is = refl
