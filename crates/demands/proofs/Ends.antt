-- How a call ends: with one of its answers, and a refusal leaves what it may. Hearing: a refusal is of one of two kinds, by the receiver's laws, which walk the definition of
-- `hearing` once. Before the cache it is 16, 1 to 5 or 22 and hands back what it got; behind it, it is 6 to 13 and hands back the message buffer. Sending: follow a call down its
-- chain of tests; each refusal is 16, 14 or 15 and hands back receiver and buffer, also those of the transmission, which does not begin without an SEQ and writes nothing where
-- sealing refuses. Giving up zeroes what is there or, where nothing is, answers 14 and hands the receiver back. Assumes nothing.
--   Ends            how a call ends
--   refused_kind    a refusal of hearing, before the cache or behind it
--   ends            so each call ends
use mathlib.Core.Bool.{Bool, true, false, ◌&&◌, ◌||◌, false≢true}
use mathlib.Core.List.{List, []}
use mathlib.Core.Logic.{◌⊎◌, ⊎_elim}
use mathlib.Core.Path.{◌≡◌, refl, sym, ◌∙◌, subst}
use Prim.Native.Nat.{ℕ, ◌<◌}
use native.Mathlib.Omega.{arith}
use borrow.Author.Tests.{ne_eqb, leb-true, leb-false, le-leb, lt-leb}
use lib.Dec.{eqb, leb}
use Rattle.std.specs.Prelude.{Result, Ok, Err}
use Rattle.common.specs.Lent.{Lent, lent}
use Rattle.common.specs.Paper as given
use Rattle.common.proofs.Tests.{by_test, and_first, and_second}
use Rattle.network.specs.declared.header.Header.{Header}
use Rattle.memory.specs.declared.outgoing.Outgoing.{Outgoing}
use Rattle.receiver.specs.declared.answer.Answer as heard_answer
use Rattle.receiver.specs.declared.answer.Answer.TheVariants.{Stored, Repeated, Access, Control, Acknowledgement}
use Rattle.receiver.specs.declared.answer.Refusal.{Refusal}
use Rattle.receiver.specs.declared.answer.Refusal.TheVariants as refusal
use Rattle.receiver.specs.declared.give_up.GivenUp.{GivenUp}
use Rattle.receiver.specs.declared.state.Receiver.{Receiver}
use Rattle.receiver.specs.Answer.{refusal_number, paper}
use Rattle.receiver.specs.Hearing as hear
use Rattle.receiver.proofs.Laws.GiveUp.{by_giving_up}
use Rattle.receiver.proofs.Laws.Heard.{Refuses, PassesSo}
use Rattle.receiver.proofs.Laws.Refusal.{Late, heard_refused}
use Rattle.sending.specs.declared.answer.Spoken.{Spoken}
use Rattle.sending.specs.Answer.{refused_at}
use Rattle.sending.specs.Segment.{segment_header, starting}
use Rattle.sending.proofs.Laws.Calls.{walk_access, walk_control, walk_segment, walk_acknowledge}
use Rattle.sending.proofs.Laws.Transmitted.{checked, saying, by_saying, by_starting, by_stopping}
use Rattle.demands.specs.Answers.{number_of, of_hearing, of_sending, of_asking, may_answer}
use Rattle.demands.specs.Call.{Call, Hear, GiveUp, SendAccess, SendControl, SendSegment, Acknowledge, Stop, lent_for, message_for, Heard, Outcome, left_heard, left_said, left_ended, step}
use Rattle.demands.specs.Refusal.{is_refused, Untouched, leaves_everything}

-- with one of the answers `may`, and what its refusals leave
pub record Ends (r : Receiver) (may : ℕ → Bool) (pdu message : List ℕ) (o : Outcome) : Type 0 where
  pub answers : may (number_of o.answer) ≡ true
  pub everything : leaves_everything (number_of o.answer) ≡ true → Untouched r pdu message o
  pub message_stays : is_refused o.answer ≡ true → o.message ≡ message

-- ---- the numbers
early_heard : (n : ℕ) → eqb n 16 || (eqb n 22 || leb n 5) ≡ true → of_hearing n ≡ true
early_heard n e =
    by_test (eqb n 16) (λ t. rw t refl)
    (λ t. by_test (eqb n 22) (λ u. rw (t, u) refl)
    (λ u.
    let low : leb n 5 ≡ true = rw (t, u) at e in
    let most = leb-true n 5 low in
    rw (t, u) (le-leb n _ (omega arith))))

late_heard : (n : ℕ) → leb 6 n && leb n 13 ≡ true → of_hearing n ≡ true
late_heard n e =
    let most = leb-true n 13 (and_second (leb 6 n) (leb n 13) e) in
    rw (ne_eqb n 16 (λ s. omega arith), ne_eqb n 22 (λ s. omega arith)) (le-leb n _ (omega arith))

checked_said : (n : ℕ) → leb 14 n && leb n 16 ≡ true → of_sending n ≡ true
checked_said n e =
    let least = leb-true 14 n (and_first (leb 14 n) (leb n 16) e) in
    let most = leb-true n 16 (and_second (leb 14 n) (leb n 16) e) in
    let some : n ≡ 0 → ⊥ = λ s. omega arith in
    rw (ne_eqb n 0 some, le-leb 14 n least) (le-leb n _ (omega arith))

-- 6 to 13 leave the PDU cached
late_changes : (n : ℕ) → leb 6 n && leb n 13 ≡ true → leaves_everything n ≡ false
late_changes n l =
    let least = leb-true 6 n (and_first (leb 6 n) (leb n 13) l) in
    let most = leb-true n 13 (and_second (leb 6 n) (leb n 13) l) in
    rw (le-leb 1 n (omega arith), lt-leb 14 n (omega arith)) (lt-leb n _ (omega arith))

-- ---- hearing
-- which refusal an answer is
refused_as : (a : Result heard_answer.Answer Refusal) → is_refused (Heard a) ≡ true → (n : Refusal) × (a ≡ Err n)
refused_as (Err n) t = (n, refl)
refused_as (Ok (Stored src auth bits)) t = absurd (false≢true t)
refused_as (Ok (Repeated src auth bits)) t = absurd (false≢true t)
refused_as (Ok (Access src dst net key pair len)) t = absurd (false≢true t)
refused_as (Ok (Control src dst net opcode pair len)) t = absurd (false≢true t)
refused_as (Ok (Acknowledgement src bits effect)) t = absurd (false≢true t)

module _ (r : Receiver) (pdu fwd msg : List ℕ) where
  abbrev o : hear.Outcome
  o = hear.hearing r pdu fwd msg

  pub untouched : (n : Refusal) (x : hear.Outcome) → Refuses r fwd msg n x → Untouched r fwd msg (left_heard x)
  untouched n x y =
      subst (λ (z : hear.Outcome). Untouched r fwd msg (left_heard z)) (sym y.leaves)
      (record { receiver_stays = refl; pdu_stays = refl; message_stays = refl; none_made = refl; no_octets = refl })

  pub refused_kind : is_refused (Heard o.heard.answer) ≡ true → (n : Refusal) × (o.heard.answer ≡ Err n) × (Refuses r fwd msg n o ⊎ ((h : Header) × PassesSo r fwd msg pdu h × Late r fwd msg h n o))
  refused_kind t = let a = refused_as o.heard.answer t in (a.0, a.1, heard_refused r pdu fwd msg a.0 a.1)

  heard_ends : Ends r of_hearing fwd msg (left_heard o)
  heard_ends =
      let n = given.number_of (paper o.heard.answer) in
      record {
        answers =
            by_test (leb 1 n)
            (λ t.
            let k = refused_kind t in
            rw k.1 (⊎_elim (λ y. early_heard (refusal_number k.0) y.is_early) (λ l. late_heard (refusal_number k.0) l.2.is_late) k.2))
            (λ t.
            let none : n < 1 = leb-false 1 n t in
            let zero : n ≡ 0 = omega arith in
            rw zero refl);
        everything = λ t.
            let k = refused_kind (and_first (leb 1 n) _ t) in
            ⊎_elim (λ y. untouched k.0 o y) (λ l. absurd (false≢true (sym (late_changes (refusal_number k.0) l.2.is_late) ∙ rw k.1 at t))) k.2;
        message_stays = λ t. let k = refused_kind t in ⊎_elim (λ y. (untouched k.0 o y).message_stays) (λ l. l.2.message_stays) k.2;
      }

-- ---- sending
module _ (r : Receiver) (buf : List ℕ) where
  abbrev SaidEnds : Lent Spoken → Type 0
  SaidEnds s = Ends r of_sending buf [] (left_said s)

  refused : (n : Refusal) → checked n ≡ true → SaidEnds (lent (refused_at r n) buf)
  refused n t =
      record {
        answers = checked_said (refusal_number n) t;
        everything = λ _. record { receiver_stays = refl; pdu_stays = refl; message_stays = refl; none_made = refl; no_octets = refl };
        message_stays = λ _. refl;
      }

  said : (element : ℕ) (h : Header) → SaidEnds (saying r element h buf)
  said element h =
      by_saying r element h buf SaidEnds refused (λ _. record { answers = refl; everything = λ t. absurd (false≢true t); message_stays = λ _. refl })

  started : (element : ℕ) (o : Outgoing) → SaidEnds (starting r element o buf)
  started element o =
      by_starting r element o buf SaidEnds refused (λ _. record { answers = refl; everything = λ t. absurd (false≢true t); message_stays = λ _. refl })

-- ---- giving up
module _ (r : Receiver) where
  abbrev EndedEnds : GivenUp → Type 0
  EndedEnds g = Ends r of_asking [] [] (left_ended g)

  not_there : EndedEnds (record { answer = Err refusal.OutsideRules; receiver = r })
  not_there =
      record {
        answers = refl;
        everything = λ _. record { receiver_stays = refl; pdu_stays = refl; message_stays = refl; none_made = refl; no_octets = refl };
        message_stays = λ _. refl;
      }

  given_up_law : (q : Receiver) → EndedEnds (record { answer = Ok tt; receiver = q })
  given_up_law q = record { answers = refl; everything = λ t. absurd (false≢true t); message_stays = λ _. refl }

-- ---- the calls
pub ends : (r : Receiver) (c : Call) → Ends r (may_answer c) (lent_for c) (message_for c) (step r c)
ends r (Hear pdu fwd msg) = heard_ends r _ fwd msg
ends r (GiveUp src) = by_giving_up (EndedEnds r) r src (not_there r) (λ _ _. given_up_law r _)
ends r (SendAccess q key szmic payload buf) =
    walk_access r buf (SaidEnds r buf) (refused r buf) q key szmic payload (λ _ _. said r buf q.element _) (λ _ _. started r buf q.element _)
ends r (SendControl q opcode parameters buf) =
    walk_control r buf (SaidEnds r buf) (refused r buf) q opcode parameters (λ _ _. said r buf q.element _) (λ _ _. started r buf q.element _)
ends r (SendSegment n buf) = walk_segment r buf (SaidEnds r buf) (refused r buf) n (λ _ _. said r buf _ (segment_header r.out n))
ends r (Acknowledge net src buf) = walk_acknowledge r buf (SaidEnds r buf) (refused r buf) net src (λ _ _ _ _. said r buf _ _)
ends r Stop = by_stopping (EndedEnds r) r (not_there r) (given_up_law r _)
