-- A message in one PDU: access, control or acknowledgement (document 01, "Transport").
-- The operations of the replay list are a parameter, `by`, so that a receiver with another list is these same definitions.
--   admission replay h                            9 and 11 of an unsegmented message
--   whole_access r h akf aid msg                  what an access message leaves
--   whole_control r h opcode msg                  what a control message leaves
--   whole_acknowledgement r h obo seq_zero bits   what an acknowledgement leaves
use Rattle.std.specs.Prelude.{Bool, false, List, Result, Ok, Err, ℕ, length, drop, if◌then◌else◌}
use Rattle.common.specs.Lent.{Lent, lent}
use Rattle.common.specs.Lists.{onto}
use Rattle.network.specs.declared.header.Header.{Header}
use Rattle.network.specs.Header.{transport_of}
use Rattle.transport.specs.declared.securing.Envelope.{Envelope}
use Rattle.transport.specs.declared.securing.Opened.{Opened}
use Rattle.transport.specs.declared.securing.Unopened.{Unopened}
use Rattle.transport.specs.declared.securing.Unopened.TheVariants.{NotOpened, ShortBuffer}
use Rattle.transport.specs.Securing.{unsecuring}
use Rattle.memory.specs.declared.pair.Pair.{Pair}
use Rattle.memory.specs.declared.replay.Entry.{Entry}
use Rattle.memory.specs.Replay.{stale, Listing, ascending, accepted_by}
use Rattle.memory.specs.Outgoing.{acknowledging}
use Rattle.node.specs.Addresses.{held_by}
use Rattle.receiver.specs.declared.answer.Answer.TheVariants.{Access, Control, Acknowledgement}
use Rattle.receiver.specs.declared.answer.Refusal.{Refusal}
use Rattle.receiver.specs.declared.answer.Refusal.TheVariants as refusal
use Rattle.receiver.specs.declared.answer.Taken.{Taken}
use Rattle.receiver.specs.declared.state.Receiver.{Receiver}
use Rattle.receiver.specs.State.{with_replay, with_outgoing}

-- a refusal that leaves r as it is
abbrev pub refused_at : Receiver → Refusal → ℕ → Taken
refused_at r n trials = record { answer = Err n; trials = trials; receiver = r }

-- the pair of a whole message
abbrev pub pair_of : Header → Pair
pair_of h = record { iv = h.iv; seq = h.seq }

-- what the message's key and nonce rest on; a whole message has the 4-octet TransMIC
abbrev pub whole_envelope : Header → Bool → ℕ → Envelope
whole_envelope h akf aid =
    record { network = h.key; akf = akf; aid = aid; szmic = false; iv = h.iv; seq = h.seq; src = h.src; dst = h.dst }

-- 9 and 11, or what an admitted message leaves
unfoldable pub unless : {A : Type 0} → Result Unit Refusal → (Refusal → A) → A → A
unless (Err n) refuse t = refuse n
unless (Ok _) refuse t = t

-- ---- by the operations of a replay list
module _ (by : Listing) where
  -- 9: the replay entry is newer or equal; 11: the source has none and all 32 are used
  unfoldable pub admission_by : List Entry → Header → Result Unit Refusal
  admission_by replay h =
      if stale (by.look_up replay h.src) (pair_of h) then Err refusal.Replayed else
      if by.has_room replay h.src then Ok tt else
      Err refusal.NoEntryLeft

  -- when a message is accepted the entry becomes the greater of the two
  unfoldable pub admitted_by : Receiver → Header → Receiver
  admitted_by r h = with_replay r (accepted_by by r.replay h.src (pair_of h))

  -- 13: no pair opens the message; else it is handed up
  unfoldable pub opened_as_by : Receiver → Header → Result Opened Unopened → Taken
  opened_as_by r h (Ok o) =
      record { answer = Ok (Access h.src h.dst h.key o.opener (pair_of h) o.len); trials = o.trials; receiver = admitted_by r h }
  opened_as_by r h (Err (NotOpened trials)) = refused_at r refusal.NotOpened trials
  opened_as_by r h (Err ShortBuffer) = refused_at r refusal.ShortBuffer 0

  unfoldable pub opened_whole_by : Receiver → Header → Lent (Result Opened Unopened) → Lent Taken
  opened_whole_by r h o = lent (opened_as_by r h o.answer) o.buffer

  -- an access message: SEG 0, AKF, AID; then the message
  unfoldable pub whole_access_by : Receiver → Header → Bool → ℕ → List ℕ → Lent Taken
  whole_access_by r h akf aid msg =
      unless (admission_by r.replay h) (λ n. lent (refused_at r n 0) msg)
      (opened_whole_by r h (unsecuring (held_by r.node) (whole_envelope h akf aid) (drop 1 (transport_of h)) msg))

  -- the parameters of a control message are handed up
  unfoldable pub whole_control_up_by : Receiver → Header → ℕ → List ℕ → Lent Taken
  whole_control_up_by r h opcode msg =
      let m = drop 1 (transport_of h) in
      lent (record { answer = Ok (Control h.src h.dst h.key opcode (pair_of h) (length m)); trials = 0; receiver = admitted_by r h }) (onto m msg)

  -- a control message: SEG 0, opcode; then its parameters
  unfoldable pub whole_control_by : Receiver → Header → ℕ → List ℕ → Lent Taken
  whole_control_by r h opcode msg =
      unless (admission_by r.replay h) (λ n. lent (refused_at r n 0) msg) (whole_control_up_by r h opcode msg)

  -- one that fits nothing is accepted and marks nothing
  unfoldable pub acted_by : Receiver → Header → Bool → ℕ → ℕ → Taken
  acted_by r h obo seq_zero bits =
      let a = acknowledging r.out h obo seq_zero bits in
      record { answer = Ok (Acknowledgement h.src bits a.effect); trials = 0; receiver = with_outgoing (admitted_by r h) a.out }

  -- an acknowledgement counts as unsegmented
  unfoldable pub whole_acknowledgement_by : Receiver → Header → Bool → ℕ → ℕ → Taken
  whole_acknowledgement_by r h obo seq_zero bits =
      unless (admission_by r.replay h) (λ n. refused_at r n 0) (acted_by r h obo seq_zero bits)

-- ---- by the list that the receiver has
abbrev pub admission : List Entry → Header → Result Unit Refusal
admission replay h = admission_by ascending replay h

abbrev pub admitted : Receiver → Header → Receiver
admitted r h = admitted_by ascending r h

abbrev pub opened_as : Receiver → Header → Result Opened Unopened → Taken
opened_as r h o = opened_as_by ascending r h o

abbrev pub opened_whole : Receiver → Header → Lent (Result Opened Unopened) → Lent Taken
opened_whole r h o = opened_whole_by ascending r h o

abbrev pub whole_access : Receiver → Header → Bool → ℕ → List ℕ → Lent Taken
whole_access r h akf aid msg = whole_access_by ascending r h akf aid msg

abbrev pub whole_control_up : Receiver → Header → ℕ → List ℕ → Lent Taken
whole_control_up r h opcode msg = whole_control_up_by ascending r h opcode msg

abbrev pub whole_control : Receiver → Header → ℕ → List ℕ → Lent Taken
whole_control r h opcode msg = whole_control_by ascending r h opcode msg

abbrev pub acted : Receiver → Header → Bool → ℕ → ℕ → Taken
acted r h obo seq_zero bits = acted_by ascending r h obo seq_zero bits

abbrev pub whole_acknowledgement : Receiver → Header → Bool → ℕ → ℕ → Taken
whole_acknowledgement r h obo seq_zero bits = whole_acknowledgement_by ascending r h obo seq_zero bits
