-- Demand 1: every call gives one of document 01's answers ("Numbers of the refusals"), and document 02's 22. Which of them each call gives, by their numbers.
--   number_of a      the number of an answer
--   may_answer c n   n is one of the numbers that call c answers
use Rattle.std.specs.Prelude.{Bool, true, ◌&&◌, ◌||◌, ◌≡◌, ℕ, eqb, leb}
use Rattle.common.specs.Paper as given
use Rattle.node.specs.declared.setup.Setup.{Setup}
use Rattle.receiver.specs.declared.state.Receiver.{Receiver}
use Rattle.receiver.specs.Answer as heard
use Rattle.receiver.specs.Fresh as fresh
use Rattle.receiver.specs.GiveUp as ended
use Rattle.sending.specs.Answer as said
use Rattle.demands.specs.Call.{Call, Hear, GiveUp, SendAccess, SendControl, SendSegment, Acknowledge, Stop, Answer, Heard, Said, Ended, step}

-- this paper's number of each answer; 0 where nothing is refused
abbrev pub number_of : Answer → ℕ
number_of (Heard a) = given.number_of (heard.paper a)
number_of (Said a) = given.number_of (said.paper a)
number_of (Ended a) = given.number_of (ended.paper a)

-- ---- the numbers that are answered, 0 among them
-- hearing checks 16, 1 to 4, 22, 5 to 13
abbrev pub of_hearing : ℕ → Bool
of_hearing n = eqb n 16 || (eqb n 22 || leb n 13)

-- sending checks 16, 14, 15
abbrev pub of_sending : ℕ → Bool
of_sending n = eqb n 0 || (leb 14 n && leb n 16)

-- a setup or giving-up request outside these rules is 14
abbrev pub of_asking : ℕ → Bool
of_asking n = eqb n 0 || eqb n 14

-- which of them a call answers
abbrev pub may_answer : Call → ℕ → Bool
may_answer (Hear pdu fwd msg) = of_hearing
may_answer (GiveUp src) = of_asking
may_answer (SendAccess q key szmic payload buf) = of_sending
may_answer (SendControl q opcode parameters buf) = of_sending
may_answer (SendSegment n buf) = of_sending
may_answer (Acknowledge net src buf) = of_sending
may_answer Stop = of_asking

-- each call gives one of its answers
abbrev pub GivesAnswers : Type 0
GivesAnswers = (r : Receiver) (c : Call) → may_answer c (number_of (step r c).answer) ≡ true

-- and so does setup
abbrev pub SetupAnswers : Type 0
SetupAnswers = (s : Setup) → of_asking (given.number_of (fresh.paper (fresh.setting_up s).answer)) ≡ true
