-- A message by its form: a segment is one, whatever it is a segment of; a whole message that is admitted is handed up, and only its replay entry is written; an acknowledgement acts.
-- Assumes nothing.
use mathlib.Core.Bool.{Bool}
use mathlib.Core.List.{List}
use mathlib.Core.Path.{◌≡◌, refl}
use Prim.Native.Nat.{ℕ}
use lib.ListN.{length, drop}
use Rattle.std.specs.Prelude.{Ok, Some}
use Rattle.common.specs.Lent.{lent}
use Rattle.common.specs.Lists.{onto}
use Rattle.network.specs.declared.header.Header.{Header}
use Rattle.network.specs.Header.{transport_of}
use Rattle.transport.specs.declared.form.Form.TheVariants as form
use Rattle.transport.specs.declared.form.SegmentFields.{SegmentFields}
use Rattle.transport.specs.declared.securing.Opener.{Opener}
use Rattle.transport.specs.Fields.{opcode}
use Rattle.transport.specs.Form.{form_of}
use Rattle.transport.specs.Securing.{opened, unsecuring}
use Rattle.memory.specs.Outgoing.{acknowledging}
use Rattle.memory.specs.Replay.{accepted}
use Rattle.node.specs.Addresses.{held_by}
use Rattle.receiver.specs.declared.answer.Answer.TheVariants as answer
use Rattle.receiver.specs.declared.state.Receiver.{Receiver}
use Rattle.receiver.specs.Hearing.{taken_as, taken_as_by}
use Rattle.receiver.specs.Segmented.{segmented}
use Rattle.receiver.specs.State.{with_replay, with_outgoing}
use Rattle.receiver.specs.Whole as whole

module _ (r : Receiver) (h : Header) (msg : List ℕ) where
  pub taken_access_segment :
      (akf : Bool) (aid : ℕ) (fields : SegmentFields) → form_of h ≡ Some (form.AccessSegment akf aid fields) → taken_as (form_of h) r h msg ≡ segmented r h fields msg
  unfolding taken_as_by
  taken_access_segment akf aid fields e = rw e refl

  pub taken_control_segment :
      (opcode : ℕ) (fields : SegmentFields) → form_of h ≡ Some (form.ControlSegment opcode fields) → taken_as (form_of h) r h msg ≡ segmented r h fields msg
  unfolding taken_as_by
  taken_control_segment opcode fields e = rw e refl

  -- a whole message that is admitted
  pub taken_access :
      (akf : Bool) (aid trials len : ℕ) (opener : Opener) (left : List ℕ) → form_of h ≡ Some (form.Access akf aid) → whole.admission r.replay h ≡ Ok tt
      → unsecuring (held_by r.node) (whole.whole_envelope h akf aid) (drop 1 (transport_of h)) msg
      ≡ lent (opened opener trials len) left
      → taken_as (form_of h) r h msg
      ≡ lent (record { answer = Ok (answer.Access h.src h.dst h.key opener (whole.pair_of h) len); trials = trials; receiver = whole.admitted r h }) left
  unfolding taken_as_by whole.whole_access_by whole.unless whole.opened_whole_by whole.opened_as_by
  taken_access akf aid trials len opener left e a u = rw (e, a, u) refl

  pub taken_control :
      (opcode : ℕ) (parameters : List ℕ) → form_of h ≡ Some (form.Control opcode) → whole.admission r.replay h ≡ Ok tt → drop 1 (transport_of h) ≡ parameters
      → taken_as (form_of h) r h msg
      ≡ lent
      (record { answer = Ok (answer.Control h.src h.dst h.key opcode (whole.pair_of h) (length parameters)); trials = 0; receiver = whole.admitted r h })
      (onto parameters msg)
  unfolding taken_as_by whole.whole_control_by whole.unless whole.whole_control_up_by
  taken_control opcode parameters e a m = rw (e, a, m) refl

  -- an acknowledgement that is admitted
  pub taken_acknowledgement :
      (obo : Bool) (seq_zero bits : ℕ) → form_of h ≡ Some (form.Acknowledgement obo seq_zero bits) → whole.admission r.replay h ≡ Ok tt
      → (let a = acknowledging r.out h obo seq_zero bits in
      taken_as (form_of h) r h msg
      ≡ lent (record { answer = Ok (answer.Acknowledgement h.src bits a.effect); trials = 0; receiver = with_outgoing (whole.admitted r h) a.out }) msg)
  unfolding taken_as_by whole.whole_acknowledgement_by whole.unless whole.acted_by
  taken_acknowledgement obo seq_zero bits e a = rw (e, a) refl

  -- it leaves all but the replay list
  pub admitted_is : whole.admitted r h ≡ with_replay r (accepted r.replay h.src (whole.pair_of h))
  unfolding whole.admitted_by
  admitted_is = refl
