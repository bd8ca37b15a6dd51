-- The answers are those of the old replay list. Two receivers that differ in the list alone, and whose lists agree, leave such two at each call: hearing and acknowledging by what agrees, the
-- others because they do not look at the list. Setup leaves both with no entry, so by induction every list of calls does. Assumes nothing.
use mathlib.Core.List.{List, [], ◌∷◌, map}
use mathlib.Core.Path.{◌≡◌, refl, sym, ap, ap₂, subst}
use Rattle.common.specs.Lent.{Lent}
use Rattle.memory.specs.declared.replay.Entry.{Entry}
use Rattle.memory.specs.Walked.{walked}
use Rattle.memory.proofs.Alike.{Both, begins, agrees, same_entries}
use Rattle.node.specs.declared.setup.Setup.{Setup}
use Rattle.receiver.proofs.Laws.Fresh.{fresh_is}
use Rattle.receiver.specs.declared.give_up.GivenUp.{GivenUp}
use Rattle.receiver.specs.declared.state.Receiver.{Receiver}
use Rattle.receiver.specs.Hearing as hear
use Rattle.receiver.specs.State.{with_replay}
use Rattle.receiver.proofs.Laws.Agree.{bare_heard, bare_given_up, agree_hearing, agree_giving_up}
use Rattle.receiver.proofs.Laws.Alike.{unlisted, Alike}
use Rattle.sending.specs.declared.answer.Spoken.{Spoken}
use Rattle.sending.proofs.Laws.Agree.{bare_spoken, agree_access, agree_control, agree_segment, agree_acknowledging, agree_stopping}
use Rattle.demands.specs.Call.{Call, Hear, GiveUp, SendAccess, SendControl, SendSegment, Acknowledge, Stop, Outcome, left_heard, left_said, left_ended, step_by, step, run_by, run, after_by, after}
use Rattle.demands.specs.Interleaved.{start}
use Rattle.demands.specs.OldList.{bare, OldAnswers, OldEntries}

-- two receivers, and what two calls leave
abbrev Near : Receiver → Receiver → Type 0
Near = Alike Both (λ r. r) unlisted

abbrev Leaves : Outcome → Outcome → Type 0
Leaves = Alike Both (λ o. o.receiver) bare

-- ---- one call
leaves_heard : {x y : hear.Outcome} → Alike Both (λ x. x.heard.receiver) bare_heard x y → Leaves (left_heard x) (left_heard y)
leaves_heard k = record { same = ap left_heard k.same; lists = k.lists }

leaves_said : {x y : Lent Spoken} → Alike Both (λ s. s.answer.receiver) bare_spoken x y → Leaves (left_said x) (left_said y)
leaves_said k = record { same = ap left_said k.same; lists = k.lists }

leaves_ended : {x y : GivenUp} → Alike Both (λ g. g.receiver) bare_given_up x y → Leaves (left_ended x) (left_ended y)
leaves_ended k = record { same = ap left_ended k.same; lists = k.lists }

agree_listed : (r : Receiver) {a b : List Entry} → Both a b → (c : Call) → Leaves (step_by walked (with_replay r a) c) (step (with_replay r b) c)
agree_listed r both (Hear pdu fwd msg) = leaves_heard (agree_hearing agrees r both pdu fwd msg)
agree_listed r both (GiveUp src) = leaves_ended (agree_giving_up agrees r both src)
agree_listed r both (SendAccess q key szmic payload buf) = leaves_said (agree_access Both r both q key szmic payload buf)
agree_listed r both (SendControl q opcode parameters buf) = leaves_said (agree_control Both r both q opcode parameters buf)
agree_listed r both (SendSegment n buf) = leaves_said (agree_segment Both r both n buf)
agree_listed r both (Acknowledge net src buf) = leaves_said (agree_acknowledging agrees r both net src buf)
agree_listed r both Stop = leaves_ended (agree_stopping Both r both)

module _ (x y : Receiver) (near : Near x y) (c : Call) where
  agree_step : Leaves (step_by walked x c) (step y c)
  agree_step =
      subst (λ (r : Receiver). Leaves (step_by walked (with_replay r x.replay) c) (step y c)) (sym near.same) (agree_listed (unlisted y) near.lists c)

  near_step : Near (step_by walked x c).receiver (step y c).receiver
  near_step = record { same = ap (λ (o : Outcome). o.receiver) agree_step.same; lists = agree_step.lists }

-- ---- any list of calls
agree_run : (x y : Receiver) → Near x y → (l : List Call) → map bare (run_by walked x l) ≡ map bare (run y l)
agree_run x y near [] = refl
agree_run x y near (c ∷ l) =
    ap₂ (λ (o : Outcome) (os : List Outcome). o ∷ os) (agree_step x y near c).same
    (agree_run (step_by walked x c).receiver (step y c).receiver (near_step x y near c) l)

near_after : (x y : Receiver) → Near x y → (l : List Call) → Near (after_by walked x l) (after y l)
near_after x y near [] = near
near_after x y near (c ∷ l) = near_after (step_by walked x c).receiver (step y c).receiver (near_step x y near c) l

-- ---- from setup on
near_start : (s : Setup) → Near (start s) (start s)
near_start s = record { same = refl; lists = rw (fresh_is s) begins }

pub old_answers : OldAnswers
old_answers s l = agree_run (start s) (start s) (near_start s) l

pub old_entries : OldEntries
old_entries s l = same_entries (after_by walked (start s) l).replay (after (start s) l).replay (near_after (start s) (start s) (near_start s) l).lists
