-- One PDU is heard: refusals 16, 1 to 4, 22, 5 to 13 in order, each exactly when the table says and leaving what it says (document 01, "Numbers of the refusals"; document 02, W5).
-- The operations of the replay list are a parameter, `by`, so that a receiver with another list is these same definitions.
--   relayed node h fwd        what forwarding leaves
--   taken r h msg             6, then by the transport form: what a PDU in the cache leaves
--   hearing r pdu fwd msg     what a call leaves
use Rattle.std.specs.Prelude.{List, Option, Some, None, Result, Ok, Err, ℕ, ltb, length, if◌then◌else◌}
use Rattle.common.specs.Lent.{Lent, lent}
use Rattle.network.specs.declared.header.Header.{Header}
use Rattle.network.specs.declared.opening.Refusal as network_refusal
use Rattle.network.specs.Opening.{opening}
use Rattle.network.specs.Sealing.{sealed_length, forwards, forwarding}
use Rattle.network.specs.Pdu.{pdu_octets}
use Rattle.transport.specs.declared.form.Form.{Form}
use Rattle.transport.specs.declared.form.Form.TheVariants as form
use Rattle.transport.specs.Form.{form_of}
use Rattle.transport.specs.Segment.{message_octets}
use Rattle.memory.specs.Cache.{seen, remembered}
use Rattle.memory.specs.Replay.{Listing, ascending}
use Rattle.receiver.specs.declared.answer.Heard.{Heard}
use Rattle.receiver.specs.declared.answer.Refusal.{Refusal}
use Rattle.receiver.specs.declared.answer.Refusal.TheVariants as refusal
use Rattle.receiver.specs.declared.answer.Taken.{Taken}
use Rattle.node.specs.declared.addresses.Node.{Node}
use Rattle.receiver.specs.declared.state.Receiver.{Receiver}
use Rattle.node.specs.Addresses.{is_local, for_node}
use Rattle.receiver.specs.Answer.{opening_refusal}
use Rattle.receiver.specs.Segmented.{segmented_by}
use Rattle.receiver.specs.State.{with_cache}
use Rattle.receiver.specs.Whole.{refused_at, whole_access_by, whole_control_by, whole_acknowledgement_by}

-- what a call leaves: its answer with the new state, and both lent buffers
pub record Outcome : Type 0 where
  pub heard : Heard
  pub forward : List ℕ
  pub message : List ℕ

abbrev pub outcome : Heard → List ℕ → List ℕ → Outcome
outcome t fwd msg = record { heard = t; forward = fwd; message = msg }

-- a refusal that leaves everything, with its number of trials
abbrev pub refused_heard : Receiver → Refusal → ℕ → Heard
refused_heard r n trials = record { answer = Err n; network = trials; application = 0; forwarded = 0; receiver = r }

-- forwarded exactly when relay is on, TTL is at least 2 and DST is no local unicast address; else the forward buffer stays
unfoldable pub relayed : Node → Header → List ℕ → Lent ℕ
relayed node h fwd =
    let f = forwarding node.materials h fwd in
    if forwards node.relay (is_local node h.dst) h then lent (sealed_length f.answer) f.buffer else
    lent 0 fwd

-- ---- by the operations of a replay list
module _ (by : Listing) where
  -- 7: transport form is wrong; else by the form
  unfoldable pub taken_as_by : Option Form → Receiver → Header → List ℕ → Lent Taken
  taken_as_by None r h msg = lent (refused_at r refusal.WrongForm 0) msg
  taken_as_by (Some (form.Access akf aid)) r h msg = whole_access_by by r h akf aid msg
  taken_as_by (Some (form.AccessSegment akf aid fields)) r h msg = segmented_by by r h fields msg
  taken_as_by (Some (form.Control opcode)) r h msg = whole_control_by by r h opcode msg
  taken_as_by (Some (form.ControlSegment opcode fields)) r h msg = segmented_by by r h fields msg
  taken_as_by (Some (form.Acknowledgement obo seq_zero bits)) r h msg = lent (whole_acknowledgement_by by r h obo seq_zero bits) msg

  -- 6: not for this node
  unfoldable pub taken_by : Receiver → Header → List ℕ → Lent Taken
  taken_by r h msg =
      if for_node r.node h.dst then taken_as_by (form_of h) r h msg else
      lent (refused_at r refusal.NotForNode 0) msg

  -- what passes refusals 1 to 4, 22 and 5 is cached, perhaps forwarded, and taken; a later refusal does not alter this
  unfoldable pub passed_by : Receiver → Header → ℕ → List ℕ → List ℕ → Outcome
  passed_by r h trials fwd msg =
      let f = relayed r.node h fwd in
      let t = taken_by (with_cache r (remembered r.cache h)) h msg in
      outcome
      (record {
        answer = t.answer.answer;
        network = trials;
        application = t.answer.trials;
        forwarded = f.answer;
        receiver = t.answer.receiver;
      })
      f.buffer t.buffer

  -- 5: in the cache
  unfoldable pub uncached_by : Receiver → Header → ℕ → List ℕ → List ℕ → Outcome
  uncached_by r h trials fwd msg =
      if seen r.cache h then outcome (refused_heard r refusal.Cached trials) fwd msg else
      passed_by r h trials fwd msg

  -- 22: SRC is one of our elements
  unfoldable pub voiced_by : Receiver → Header → ℕ → List ℕ → List ℕ → Outcome
  voiced_by r h trials fwd msg =
      if is_local r.node h.src then outcome (refused_heard r refusal.OwnSource trials) fwd msg else
      uncached_by r h trials fwd msg

  -- 1 to 4 are those of opening a Network PDU
  unfoldable pub opened_as_by : Result Header network_refusal.Refusal → Receiver → ℕ → List ℕ → List ℕ → Outcome
  opened_as_by (Err n) r trials fwd msg = outcome (refused_heard r (opening_refusal n) trials) fwd msg
  opened_as_by (Ok h) r trials fwd msg = voiced_by r h trials fwd msg

  -- 16: a buffer lent for writing is shorter than 29 (PDU) or 384 (message)
  unfoldable pub hearing_by : Receiver → List ℕ → List ℕ → List ℕ → Outcome
  hearing_by r pdu fwd msg =
      let o = opening r.node.materials r.node.networks r.node.iv pdu in
      if ltb (length fwd) pdu_octets then outcome (refused_heard r refusal.ShortBuffer 0) fwd msg else
      if ltb (length msg) message_octets then outcome (refused_heard r refusal.ShortBuffer 0) fwd msg else
      opened_as_by o.opened r o.trials fwd msg

-- ---- by the list that the receiver has
abbrev pub taken_as : Option Form → Receiver → Header → List ℕ → Lent Taken
taken_as f r h msg = taken_as_by ascending f r h msg

abbrev pub taken : Receiver → Header → List ℕ → Lent Taken
taken r h msg = taken_by ascending r h msg

abbrev pub passed : Receiver → Header → ℕ → List ℕ → List ℕ → Outcome
passed r h trials fwd msg = passed_by ascending r h trials fwd msg

abbrev pub uncached : Receiver → Header → ℕ → List ℕ → List ℕ → Outcome
uncached r h trials fwd msg = uncached_by ascending r h trials fwd msg

abbrev pub voiced : Receiver → Header → ℕ → List ℕ → List ℕ → Outcome
voiced r h trials fwd msg = voiced_by ascending r h trials fwd msg

abbrev pub opened_as : Result Header network_refusal.Refusal → Receiver → ℕ → List ℕ → List ℕ → Outcome
opened_as o r trials fwd msg = opened_as_by ascending o r trials fwd msg

abbrev pub hearing : Receiver → List ℕ → List ℕ → List ℕ → Outcome
hearing r pdu fwd msg = hearing_by ascending r pdu fwd msg
