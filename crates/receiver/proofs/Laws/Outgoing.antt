-- Hearing leaves the outgoing message as it is, or an acknowledgement that is acted on marks segments of it as heard or ends it: no other way of a PDU writes it.
-- Assumes nothing.
use mathlib.Core.List.{List}
use Prim.Native.Nat.{ℕ}
use Rattle.common.specs.Lent.{Lent}
use Rattle.network.specs.declared.header.Header.{Header}
use Rattle.memory.specs.declared.outgoing.Outgoing.{Outgoing}
use Rattle.memory.specs.Outgoing.{no_outgoing, with_heard}
use Rattle.memory.proofs.OutgoingLaws.{by_acknowledging}
use Rattle.receiver.specs.declared.answer.Taken.{Taken}
use Rattle.receiver.specs.declared.state.Receiver.{Receiver}
use Rattle.receiver.specs.Hearing.{hearing}
use Rattle.receiver.specs.Segmented.{upgraded_by, access_up_as_by, control_up_by}
use Rattle.receiver.specs.Whole.{admitted_by, opened_as_by, whole_control_up_by, acted_by}
use Rattle.receiver.proofs.Laws.Heard.{caching}
use Rattle.receiver.proofs.Laws.Ways.{Ways, walk_left}

-- what holds of the message, of it with other segments heard, and of none, holds of what hearing leaves of it
module _ (P : Outgoing → Type 0) (r : Receiver) (none : P no_outgoing) (same : P r.out) (marked : (heard : ℕ) → P (with_heard r.out heard)) where
  ways : (h : Header) (msg : List ℕ) → Ways (caching r h) h msg (λ (t : Lent Taken). P t.answer.receiver.out)
  unfolding opened_as_by whole_control_up_by acted_by access_up_as_by control_up_by admitted_by upgraded_by
  ways h msg =
      record {
        refuses = λ n trials l f. same;
        access_whole = λ opener trials len left. same;
        control_whole = λ opcode. same;
        acknowledges = λ obo seq_zero bits. by_acknowledging P r.out h obo seq_zero bits none same marked;
        repeats = λ auth bits. same;
        stores = λ seg slot before g e. same;
        access_gathered = λ seg slot before g opener trials len left. same;
        control_gathered = λ seg slot before g. same;
        frees = λ seg slot before g f trials. same;
      }

  pub outgoing_heard : (fwd msg pdu : List ℕ) → P (hearing r pdu fwd msg).heard.receiver.out
  outgoing_heard fwd msg pdu = walk_left r pdu fwd msg (λ (q : Receiver). P q.out) same (λ h _. ways h msg)
