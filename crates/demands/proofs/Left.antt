-- What a call leaves of the receiver. A refusal leaves it as it was; a call that sends takes an element's next SEQ and may begin a message, which is then kept; ending the outgoing message
-- clears it; giving up frees a slot; hearing leaves what it leaves. What holds on each of these ways holds of the call: one walk for all who speak of the state alone. Assumes nothing.
--   Begins                 a message that a request begins
--   says                   the calls that send, or end the outgoing message
--   Says, Ways             what holds on each way of these, and of any call
--   walk_said, walk_step   so it holds of what the call leaves
use mathlib.Core.Bool.{Bool, true, false, false≢true}
use mathlib.Core.List.{List}
use mathlib.Core.Path.{◌≡◌, refl, ap, ◌∙◌}
use Prim.Native.Nat.{ℕ, ◌≤◌, ◌<◌}
use lib.ListN.{length}
use Rattle.common.specs.Lent.{Lent}
use Rattle.network.specs.declared.header.Header.{Header}
use Rattle.memory.specs.declared.outgoing.Outgoing.{Outgoing}
use Rattle.memory.specs.declared.session.Terms.{Terms}
use Rattle.memory.specs.Outgoing.{no_outgoing}
use Rattle.memory.specs.Session.{session_slots, no_session}
use Rattle.receiver.specs.declared.give_up.GivenUp.{GivenUp}
use Rattle.receiver.specs.declared.state.Receiver.{Receiver}
use Rattle.receiver.specs.Hearing.{hearing}
use Rattle.receiver.specs.State.{with_session, with_outgoing}
use Rattle.receiver.proofs.Laws.GiveUp.{by_giving_up}
use Rattle.sending.specs.declared.answer.Spoken.{Spoken}
use Rattle.sending.specs.declared.request.Request.{Request}
use Rattle.sending.specs.Access.{keyed, envelope_of}
use Rattle.sending.specs.Segment.{starting}
use Rattle.sending.specs.Sendable.{Sendable}
use Rattle.sending.specs.Transmission.{next_seq}
use Rattle.sending.proofs.Laws.Allowed.{Asked, access_allows, control_allows, access_alone, control_alone}
use Rattle.sending.proofs.Laws.Calls.{walk_access, walk_control, walk_segment, walk_acknowledge}
use Rattle.sending.proofs.Laws.Sendable.{access_sendable, control_sendable}
use Rattle.sending.proofs.Laws.Shapes.{keeps_access, keeps_control, envelope_is}
use Rattle.sending.proofs.Laws.Transmitted.{used, saying, by_saying, by_starting, by_stopping}
use Rattle.demands.specs.Call.{Call, Hear, GiveUp, SendAccess, SendControl, SendSegment, Acknowledge, Stop, step}
use Rattle.sending.specs.Request.{dst_of, additional_for}
use Rattle.transport.specs.declared.securing.Envelope.{Envelope}

-- none is kept, and one that is asked for and allowed will be: it can be sent in segments
pub record Begins (r : Receiver) (o : Outgoing) : Type 0 where
  pub request : Request
  pub asks : Asked r.node request
  pub to_whom : o.terms.dst ≡ dst_of r.node request.dst
  pub alone : r.out.src ≡ 0
  pub sendable : Sendable o

abbrev pub says : Call → Bool
says (Hear pdu fwd msg) = false
says (GiveUp src) = false
says (SendAccess q key szmic payload buf) = true
says (SendControl q opcode parameters buf) = true
says (SendSegment n buf) = true
says (Acknowledge net src buf) = true
says Stop = true

pub record Says (r : Receiver) (P : Receiver → Type 0) : Type 0 where
  pub stays : P r
  pub sends : (element : ℕ) → next_seq r element ≤ 0xFFFFFF → P (used r element)
  pub begins : (element : ℕ) → next_seq r element ≤ 0xFFFFFF → (o : Outgoing) → Begins r o → P (with_outgoing (used r element) o)
  pub ends : P (with_outgoing r no_outgoing)

pub record Ways (r : Receiver) (P : Receiver → Type 0) : Type 0 where
  pub hears : (pdu fwd msg : List ℕ) → P (hearing r pdu fwd msg).heard.receiver
  pub frees : (slot : ℕ) → slot < session_slots → P (with_session r slot no_session)
  pub speaks : Says r P

module _ (r : Receiver) (P : Receiver → Type 0) where
  module _ (w : Says r P) where
    abbrev LeftBy : Lent Spoken → Type 0
    LeftBy s = P s.answer.receiver

    said : (buf : List ℕ) (element : ℕ) (h : Header) → LeftBy (saying r element h buf)
    said buf element h = by_saying r element h buf LeftBy (λ _ _. w.stays) (λ s. w.sends element s.seq_left)

    started : (buf : List ℕ) (element : ℕ) (o : Outgoing) → Begins r o → LeftBy (starting r element o buf)
    started buf element o b = by_starting r element o buf LeftBy (λ _ _. w.stays) (λ s. w.begins element s.seq_left o b)

    pub walk_said : (c : Call) → says c ≡ true → P (step r c).receiver
    walk_said (Hear pdu fwd msg) e = absurd (false≢true e)
    walk_said (GiveUp src) e = absurd (false≢true e)
    walk_said (SendAccess q key szmic payload buf) e =
        let k = keyed r.node key in
        walk_access r buf LeftBy (λ _ _. w.stays) q key szmic payload (λ _ _. said buf q.element _)
        (λ a i. started buf q.element _
        (record {
          request = q;
          asks = (access_allows r q key szmic (length payload) a).asks;
          to_whom =
              ap (λ (t : Terms). t.dst) (keeps_access (envelope_of r q k szmic) q k (additional_for r.node q.dst) payload).terms_is
              ∙ ap (λ (v : Envelope). v.dst) (envelope_is r q k szmic);
          alone = access_alone r q key szmic (length payload) a i;
          sendable = access_sendable r q key szmic payload a i;
        }))
    walk_said (SendControl q opcode parameters buf) e =
        walk_control r buf LeftBy (λ _ _. w.stays) q opcode parameters (λ _ _. said buf q.element _)
        (λ a i. started buf q.element _
        (record {
          request = q;
          asks = (control_allows r q opcode (length parameters) a).asks;
          to_whom = ap (λ (t : Terms). t.dst) (keeps_control r q opcode parameters).terms_is;
          alone = control_alone r q opcode (length parameters) a i;
          sendable = control_sendable r q opcode parameters a i;
        }))
    walk_said (SendSegment n buf) e = walk_segment r buf LeftBy (λ _ _. w.stays) n (λ _ _. said buf _ _)
    walk_said (Acknowledge net src buf) e = walk_acknowledge r buf LeftBy (λ _ _. w.stays) net src (λ _ _ _ _. said buf _ _)
    walk_said Stop e = by_stopping (λ (g : GivenUp). P g.receiver) r w.stays w.ends

  pub walk_step : Ways r P → (c : Call) → P (step r c).receiver
  walk_step w (Hear pdu fwd msg) = w.hears pdu fwd msg
  walk_step w (GiveUp src) = by_giving_up (λ (g : GivenUp). P g.receiver) r src w.speaks.stays w.frees
  walk_step w (SendAccess q key szmic payload buf) = walk_said w.speaks (SendAccess q key szmic payload buf) refl
  walk_step w (SendControl q opcode parameters buf) = walk_said w.speaks (SendControl q opcode parameters buf) refl
  walk_step w (SendSegment n buf) = walk_said w.speaks (SendSegment n buf) refl
  walk_step w (Acknowledge net src buf) = walk_said w.speaks (Acknowledge net src buf) refl
  walk_step w Stop = walk_said w.speaks Stop refl
