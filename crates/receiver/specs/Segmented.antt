-- A segment of a longer message (document 01, "Transport"; refusals 8 to 13).
-- The operations of the replay list are a parameter, `by`, so that a receiver with another list is these same definitions.
--   segment_of h fields auth   a segment as header and form tell it
--   gathered r slot s msg      the session with a segment more: stored, or complete
--   placed r h seg msg         what a segment with a SeqAuth leaves
--   segmented r h fields msg   what a segment leaves
use Rattle.std.specs.Prelude.{List, Option, Some, None, Result, Ok, Err, ℕ, length, get_or, take, if◌then◌else◌}
use Rattle.common.specs.Lent.{Lent, lent}
use Rattle.common.specs.Lists.{onto}
use Rattle.network.specs.declared.header.Header.{Header}
use Rattle.transport.specs.declared.form.SegmentFields.{SegmentFields}
use Rattle.transport.specs.declared.securing.Envelope.{Envelope}
use Rattle.transport.specs.declared.securing.Opened.{Opened}
use Rattle.transport.specs.declared.securing.Unopened.{Unopened}
use Rattle.transport.specs.declared.securing.Unopened.TheVariants.{NotOpened, ShortBuffer}
use Rattle.transport.specs.Fields.{akf, aid, opcode}
use Rattle.transport.specs.Securing.{unsecuring}
use Rattle.transport.specs.SeqAuth.{seq_auth}
use Rattle.memory.specs.declared.decision.Decision.TheVariants as decided
use Rattle.memory.specs.declared.session.Segment.{Segment}
use Rattle.memory.specs.declared.session.Session.{Session}
use Rattle.memory.specs.Decision.{Decided, decision_by}
use Rattle.memory.specs.Replay.{Listing, ascending, handed_up_by}
use Rattle.memory.specs.Session.{session_at, no_session, begun, stored, complete, block_ack}
use Rattle.node.specs.Addresses.{held_by}
use Rattle.receiver.specs.declared.answer.Answer.TheVariants.{Stored, Repeated, Access, Control}
use Rattle.receiver.specs.declared.answer.Refusal.TheVariants as refusal
use Rattle.receiver.specs.declared.answer.Taken.{Taken}
use Rattle.receiver.specs.declared.state.Receiver.{Receiver}
use Rattle.receiver.specs.Answer.{decision_refusal}
use Rattle.receiver.specs.State.{with_replay, with_session}
use Rattle.receiver.specs.Whole.{refused_at}

-- a segment as header and form tell it: SeqAuth is the IV Index followed by the number found
abbrev pub segment_of : Header → SegmentFields → ℕ → Segment
segment_of h fields auth =
    record {
      auth = record { iv = h.iv; seq = auth };
      terms = record { ctl = h.ctl; first = get_or h.transport 0 0; szmic = fields.szmic; segn = fields.segn; dst = h.dst; key = h.key };
      sego = fields.sego;
    }

-- the bytes in SegO order
unfoldable pub message_of : Session → List ℕ
message_of s = take s.len s.bytes

-- the second nonce takes its SEQ from SeqAuth
abbrev pub session_envelope : Session → Envelope
session_envelope s =
    record {
      network = s.terms.key;
      akf = akf s.terms.first;
      aid = aid s.terms.first;
      szmic = s.terms.szmic;
      iv = s.auth.iv;
      seq = s.auth.seq;
      src = s.src;
      dst = s.terms.dst;
    }

-- ---- by the operations of a replay list
module _ (by : Listing) where
  -- when a segmented message is handed up its SeqAuth, SegN and DST are kept with the replay entry
  unfoldable pub upgraded_by : Receiver → Session → Receiver
  upgraded_by r s = with_replay r (handed_up_by by r.replay s.src (record { auth = s.auth; segn = s.terms.segn; dst = s.terms.dst }))

  -- control: handed up
  unfoldable pub control_up_by : Receiver → Session → List ℕ → Lent Taken
  control_up_by r s msg =
      let m = message_of s in
      lent
      (record { answer = Ok (Control s.src s.terms.dst s.terms.key (opcode s.terms.first) s.auth (length m)); trials = 0; receiver = upgraded_by r s })
      (onto m msg)

  -- access: opened; 13 where no pair does
  unfoldable pub access_up_as_by : Receiver → Session → Result Opened Unopened → Taken
  access_up_as_by r s (Ok o) =
      record { answer = Ok (Access s.src s.terms.dst s.terms.key o.opener s.auth o.len); trials = o.trials; receiver = upgraded_by r s }
  access_up_as_by r s (Err (NotOpened trials)) = refused_at r refusal.NotOpened trials
  access_up_as_by r s (Err ShortBuffer) = refused_at r refusal.ShortBuffer 0

  unfoldable pub access_up_by : Receiver → Session → List ℕ → Lent Taken
  access_up_by r s msg =
      let o = unsecuring (held_by r.node) (session_envelope s) (message_of s) msg in
      lent (access_up_as_by r s o.answer) o.buffer

  -- the last missing segment completes it, and the slot is freed, whatever becomes of the message; else it is stored
  unfoldable pub gathered_by : Receiver → ℕ → Session → List ℕ → Lent Taken
  gathered_by r slot s msg =
      if complete s then
      (if s.terms.ctl then control_up_by (with_session r slot no_session) s msg else access_up_by (with_session r slot no_session) s msg) else
      lent (record { answer = Ok (Stored s.src s.auth (block_ack s)); trials = 0; receiver = with_session r slot s }) msg

  -- 9 to 12, repeat, join, or open a session: one that is replaced or new is zeroed first
  unfoldable pub placed_as_by : Decided → Receiver → Header → Segment → List ℕ → Lent Taken
  placed_as_by (Err n) r h seg msg = lent (refused_at r (decision_refusal n) 0) msg
  placed_as_by (Ok (decided.Repeat bits)) r h seg msg =
      lent (record { answer = Ok (Repeated h.src seg.auth bits); trials = 0; receiver = r }) msg
  placed_as_by (Ok (decided.Join slot)) r h seg msg = gathered_by r slot (stored (session_at r.sessions slot) h seg.sego) msg
  placed_as_by (Ok (decided.Open slot)) r h seg msg = gathered_by r slot (stored (begun h.src seg) h seg.sego) msg

  unfoldable pub placed_by : Receiver → Header → Segment → List ℕ → Lent Taken
  placed_by r h seg msg = placed_as_by (decision_by by r.replay r.sessions h.src seg) r h seg msg

  -- 8: no SeqAuth exists
  unfoldable pub segmented_as_by : Option ℕ → Receiver → Header → SegmentFields → List ℕ → Lent Taken
  segmented_as_by None r h fields msg = lent (refused_at r refusal.NoSeqAuth 0) msg
  segmented_as_by (Some auth) r h fields msg = placed_by r h (segment_of h fields auth) msg

  unfoldable pub segmented_by : Receiver → Header → SegmentFields → List ℕ → Lent Taken
  segmented_by r h fields msg = segmented_as_by (seq_auth h.seq fields.seqzero) r h fields msg

-- ---- by the list that the receiver has
abbrev pub upgraded : Receiver → Session → Receiver
upgraded r s = upgraded_by ascending r s

abbrev pub control_up : Receiver → Session → List ℕ → Lent Taken
control_up r s msg = control_up_by ascending r s msg

abbrev pub access_up_as : Receiver → Session → Result Opened Unopened → Taken
access_up_as r s o = access_up_as_by ascending r s o

abbrev pub access_up : Receiver → Session → List ℕ → Lent Taken
access_up r s msg = access_up_by ascending r s msg

abbrev pub gathered : Receiver → ℕ → Session → List ℕ → Lent Taken
gathered r slot s msg = gathered_by ascending r slot s msg

abbrev pub placed_as : Decided → Receiver → Header → Segment → List ℕ → Lent Taken
placed_as d r h seg msg = placed_as_by ascending d r h seg msg

abbrev pub placed : Receiver → Header → Segment → List ℕ → Lent Taken
placed r h seg msg = placed_by ascending r h seg msg

abbrev pub segmented_as : Option ℕ → Receiver → Header → SegmentFields → List ℕ → Lent Taken
segmented_as a r h fields msg = segmented_as_by ascending a r h fields msg

abbrev pub segmented : Receiver → Header → SegmentFields → List ℕ → Lent Taken
segmented r h fields msg = segmented_by ascending r h fields msg
