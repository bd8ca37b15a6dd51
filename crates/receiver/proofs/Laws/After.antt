-- What is left behind the cache, read off the ways a PDU can end there: a refusal hands back the receiver that cached the PDU and the message buffer as it was, and only
-- 13 of a segment has freed a slot, the one that the segment went to. Assumes nothing.
--   left_behind   what a refusal leaves of the receiver
--   After         what an answer leaves, by its case
--   after_taken   so it is of every PDU that passes the cache
use mathlib.Core.Bool.{true}
use mathlib.Core.List.{List}
use mathlib.Core.Path.{◌≡◌, refl, ap}
use Prim.Native.Nat.{ℕ, ◌≤◌}
use lib.ListN.{length}
use Rattle.std.specs.Prelude.{Result, Ok, Err, if◌then◌else◌}
use Rattle.common.specs.Lent.{Lent}
use Rattle.network.specs.declared.header.Header.{Header}
use Rattle.transport.specs.Segment.{message_octets}
use Rattle.memory.specs.Session.{no_session, slot_for}
use Rattle.memory.proofs.Within.{opens_slot}
use Rattle.receiver.specs.declared.answer.Answer.{Answer}
use Rattle.receiver.specs.declared.answer.Answer.TheVariants.{Stored, Repeated, Access, Control, Acknowledgement}
use Rattle.receiver.specs.declared.answer.Refusal.{Refusal}
use Rattle.receiver.specs.declared.answer.Taken.{Taken}
use Rattle.receiver.specs.declared.state.Receiver.{Receiver}
use Rattle.receiver.specs.Hearing.{taken}
use Rattle.receiver.specs.Segmented.{access_up_as_by, control_up_by}
use Rattle.receiver.specs.State.{with_session}
use Rattle.receiver.specs.Whole.{opened_as_by, whole_control_up_by, acted_by}
use Rattle.receiver.proofs.Laws.Heard.{late}
use Rattle.receiver.proofs.Laws.Ways.{goes_opens, frees_slot, Ways, walk_taken}

-- what refusal n leaves of the receiver q that has cached the PDU of a header: it, and of 13 of a segment with the slot of its session freed
abbrev pub left_behind : Receiver → Header → Refusal → Receiver
left_behind q h n = if frees_slot h n then with_session q (slot_for q.sessions (record { src = h.src })) no_session else q

-- what an answer leaves, by its case
abbrev pub After : Receiver → Header → List ℕ → Result Answer Refusal → Receiver → List ℕ → Type 0
After q h msg (Err n) left buf = (left ≡ left_behind q h n) × (buf ≡ msg) × (late n ≡ true)
After q h msg (Ok (Stored src auth bits)) left buf = Unit {0}
After q h msg (Ok (Repeated src auth bits)) left buf = Unit {0}
After q h msg (Ok (Access src dst net key pair len)) left buf = Unit {0}
After q h msg (Ok (Control src dst net opcode pair len)) left buf = Unit {0}
After q h msg (Ok (Acknowledgement src bits effect)) left buf = Unit {0}

module _ (q : Receiver) (h : Header) (msg : List ℕ) (room : message_octets ≤ length msg) where
  abbrev AfterTaken : Lent Taken → Type 0
  AfterTaken t = After q h msg t.answer.answer t.answer.receiver t.buffer

  ways : Ways q h msg AfterTaken
  unfolding opened_as_by whole_control_up_by acted_by access_up_as_by control_up_by
  ways =
      record {
        refuses = λ n trials l f. (rw f refl, refl, l);
        access_whole = λ opener trials len left. tt {0};
        control_whole = λ opcode. tt {0};
        acknowledges = λ obo seq_zero bits. tt {0};
        repeats = λ auth bits. tt {0};
        stores = λ seg slot before g e. tt {0};
        access_gathered = λ seg slot before g opener trials len left. tt {0};
        control_gathered = λ seg slot before g. tt {0};
        frees = λ seg slot before g f trials. (rw f (ap (λ (i : ℕ). with_session q i no_session) (opens_slot (goes_opens g))), refl, refl);
      }

  pub after_taken : AfterTaken (taken q h msg)
  after_taken = walk_taken q h msg room AfterTaken ways
