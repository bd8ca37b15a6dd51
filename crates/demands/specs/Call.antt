-- The receiver's public calls, what each leaves, and a run of them: what the theorems about lists of calls speak of.
--   Call            one call, with what it is given and the buffers that it is lent
--   lent_for c      the buffer that it is lent for a PDU
--   message_for c   the buffer that it is lent for a message
--   Outcome         what a call leaves: the new state, its answer, the lent buffers, the PDU that it made, the keys tried
--   step r c        what call c leaves of receiver r
--   run r l         what each call of a list leaves
--   after r l       the receiver behind the last
-- step_by, run_by and after_by are given the operations of a replay list: by another list's they are a receiver with that list.
use Rattle.std.specs.Prelude.{Bool, true, false, Result, Ok, Err, List, [], ◌∷◌, ℕ}
use Rattle.common.specs.Lent.{Lent}
use Rattle.transport.specs.declared.securing.MessageKey.{MessageKey}
use Rattle.memory.specs.Replay.{Listing, ascending}
use Rattle.receiver.specs.declared.answer.Answer as heard_answer
use Rattle.receiver.specs.declared.answer.Refusal.{Refusal}
use Rattle.receiver.specs.declared.give_up.GivenUp.{GivenUp}
use Rattle.receiver.specs.declared.state.Receiver.{Receiver}
use Rattle.receiver.specs.GiveUp.{giving_up}
use Rattle.receiver.specs.Hearing as hear
use Rattle.sending.specs.declared.answer.Answer as said_answer
use Rattle.sending.specs.declared.answer.Answer.TheVariants.{Sent, Started}
use Rattle.sending.specs.declared.answer.Spoken.{Spoken}
use Rattle.sending.specs.declared.request.Request.{Request}
use Rattle.sending.specs.Access.{sending_access}
use Rattle.sending.specs.Acknowledge.{acknowledging_by}
use Rattle.sending.specs.Control.{sending_control}
use Rattle.sending.specs.Segment.{sending_segment}
use Rattle.sending.specs.Stop.{stopping}

pub data Call : Type 0 where
  -- a PDU, the forward buffer, the message buffer
  Hear : (pdu fwd msg : List ℕ) → Call
  -- the source whose session is given up
  GiveUp : (src : ℕ) → Call
  -- each call that sends is lent a buffer for the PDU
  SendAccess : (q : Request) (key : MessageKey) (szmic : Bool) (payload buf : List ℕ) → Call
  SendControl : (q : Request) (opcode : ℕ) (parameters buf : List ℕ) → Call
  SendSegment : (n : ℕ) (buf : List ℕ) → Call
  Acknowledge : (net src : ℕ) (buf : List ℕ) → Call
  Stop : Call

-- the buffer that a call is lent for a PDU; empty where it is lent none
abbrev pub lent_for : Call → List ℕ
lent_for (Hear pdu fwd msg) = fwd
lent_for (GiveUp src) = []
lent_for (SendAccess q key szmic payload buf) = buf
lent_for (SendControl q opcode parameters buf) = buf
lent_for (SendSegment n buf) = buf
lent_for (Acknowledge net src buf) = buf
lent_for Stop = []

-- and for a message
abbrev pub message_for : Call → List ℕ
message_for (Hear pdu fwd msg) = msg
message_for (GiveUp src) = []
message_for (SendAccess q key szmic payload buf) = []
message_for (SendControl q opcode parameters buf) = []
message_for (SendSegment n buf) = []
message_for (Acknowledge net src buf) = []
message_for Stop = []

-- ---- what a call leaves
-- what it answers, by the kind of call
pub data Answer : Type 0 where
  Heard : Result heard_answer.Answer Refusal → Answer
  Said : Result said_answer.Answer Refusal → Answer
  Ended : Result Unit Refusal → Answer

-- how many keys an answer counts as tried
pub record Tried : Type 0 where
  pub network : ℕ
  pub application : ℕ

pub record Outcome : Type 0 where
  -- the new state
  pub receiver : Receiver
  pub answer : Answer
  -- the buffers that it was lent for a PDU and for a message, as they are left; empty where it was lent none
  pub pdu : List ℕ
  pub message : List ℕ
  -- a PDU of its own was made, and how many octets of the buffer are a PDU: that one, or the one forwarded
  pub made : Bool
  pub octets : ℕ
  pub tried : Tried

-- the answer of a call that sends tells of a PDU, and of its octets
abbrev pub made_by : Result said_answer.Answer Refusal → Bool
made_by (Ok a) = true
made_by (Err n) = false

abbrev pub length_by : Result said_answer.Answer Refusal → ℕ
length_by (Ok (Sent len)) = len
length_by (Ok (Started len seg_n)) = len
length_by (Err n) = 0

-- of hearing, sending, and giving up a session or the outgoing message
abbrev pub left_heard : hear.Outcome → Outcome
left_heard o =
    record {
      receiver = o.heard.receiver;
      answer = Heard o.heard.answer;
      pdu = o.forward;
      message = o.message;
      made = false;
      octets = o.heard.forwarded;
      tried = record { network = o.heard.network; application = o.heard.application };
    }

abbrev pub left_said : Lent Spoken → Outcome
left_said s =
    record {
      receiver = s.answer.receiver;
      answer = Said s.answer.answer;
      pdu = s.buffer;
      message = [];
      made = made_by s.answer.answer;
      octets = length_by s.answer.answer;
      tried = record { network = 0; application = 0 };
    }

abbrev pub left_ended : GivenUp → Outcome
left_ended g =
    record {
      receiver = g.receiver;
      answer = Ended g.answer;
      pdu = [];
      message = [];
      made = false;
      octets = 0;
      tried = record { network = 0; application = 0 };
    }

abbrev pub step_by : Listing → Receiver → Call → Outcome
step_by by r (Hear pdu fwd msg) = left_heard (hear.hearing_by by r pdu fwd msg)
step_by by r (GiveUp src) = left_ended (giving_up r src)
step_by by r (SendAccess q key szmic payload buf) = left_said (sending_access r q key szmic payload buf)
step_by by r (SendControl q opcode parameters buf) = left_said (sending_control r q opcode parameters buf)
step_by by r (SendSegment n buf) = left_said (sending_segment r n buf)
step_by by r (Acknowledge net src buf) = left_said (acknowledging_by by r net src buf)
step_by by r Stop = left_ended (stopping r)

abbrev pub step : Receiver → Call → Outcome
step r c = step_by ascending r c

-- each call finds what the one before it left
abbrev pub run_by : Listing → Receiver → List Call → List Outcome
run_by by r [] = []
run_by by r (c ∷ l) = step_by by r c ∷ run_by by (step_by by r c).receiver l

abbrev pub run : Receiver → List Call → List Outcome
run r l = run_by ascending r l

abbrev pub after_by : Listing → Receiver → List Call → Receiver
after_by by r [] = r
after_by by r (c ∷ l) = after_by by (step_by by r c).receiver l

abbrev pub after : Receiver → List Call → Receiver
after r l = after_by ascending r l
