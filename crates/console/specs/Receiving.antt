-- What a line asks of the receiver, and its answer.
--   lent_of n                the buffer lent for a PDU or a message
--   hears r room pdu         `hear PDU`
--   speaks r room s octets   `access`, `control`, `segment` and `ack`
--   gives_up r what          `stop` and `drop`
--   shows r                  `show`
use Rattle.std.specs.Prelude.{List, ◌++◌, ℕ, replicate, take}
use Rattle.common.specs.Lent.{Lent}
use Rattle.receiver.specs.declared.give_up.GivenUp.{GivenUp}
use Rattle.receiver.specs.declared.state.Receiver.{Receiver}
use Rattle.receiver.specs.GiveUp.{giving_up}
use Rattle.receiver.specs.Hearing.{Outcome, hearing}
use Rattle.sending.specs.declared.answer.Spoken.{Spoken}
use Rattle.sending.specs.Access.{sending_access}
use Rattle.sending.specs.Acknowledge.{acknowledging}
use Rattle.sending.specs.Control.{sending_control}
use Rattle.sending.specs.Segment.{sending_segment}
use Rattle.sending.specs.Stop.{stopping}
use Rattle.commands.specs.declared.desk.Room.{Room}
use Rattle.commands.specs.declared.line.GivingUp.{GivingUp}
use Rattle.commands.specs.declared.line.GivingUp.TheVariants.{Message, Session}
use Rattle.commands.specs.declared.line.Sending.{Sending}
use Rattle.commands.specs.declared.line.Sending.TheVariants.{Access, Control, Segment, Acknowledgement}
use Rattle.answers.specs.Answer.{heard_text, forward_text, spoken_text, given_up_text}
use Rattle.answers.specs.Looking.{receiver_text}
use Rattle.console.specs.Answered.{Answered, answered}

-- a buffer of zeros of the length that `room` named; at most 384 (180 in hex) are lent
abbrev pub lent_of : ℕ → List ℕ
lent_of n = take n (replicate 0x180 0)

-- the answer to a PDU that was heard: the message handed up and the PDU forwarded are the first octets of their buffers
abbrev pub outcome_text : Outcome → List ℕ
outcome_text o =
    heard_text o.heard.answer (record { network = o.heard.network; application = o.heard.application }) o.message
    ++ forward_text (take o.heard.forwarded o.forward)

-- a PDU is heard with these buffers
unfoldable pub hears_into : Receiver → List ℕ → List ℕ → List ℕ → Answered Receiver
hears_into r pdu forward message =
    let o = hearing r pdu forward message in
    answered o.heard.receiver (outcome_text o)

-- `hear PDU`
unfoldable pub hears : Receiver → Room → List ℕ → Answered Receiver
hears r room pdu = hears_into r pdu (lent_of room.forward) (lent_of room.message)

-- what is asked to be sent, with a buffer for the PDU; a message is the first octets of those that the line says
unfoldable pub sent : Receiver → Sending → List ℕ → List ℕ → Lent Spoken
sent r (Access request key szmic len) octets pdu = sending_access r request key szmic (take len octets) pdu
sent r (Control request opcode len) octets pdu = sending_control r request opcode (take len octets) pdu
sent r (Segment n) octets pdu = sending_segment r n pdu
sent r (Acknowledgement network src) octets pdu = acknowledging r network src pdu

-- the answer to it: the PDU is the first octets of its buffer
unfoldable pub speaks_into : Receiver → Sending → List ℕ → List ℕ → Answered Receiver
speaks_into r s octets pdu =
    let said = sent r s octets pdu in
    answered said.answer.receiver (spoken_text said.answer.answer said.buffer)

-- `access`, `control`, `segment` and `ack`: the buffer has the length that `room` named first
unfoldable pub speaks : Receiver → Room → Sending → List ℕ → Answered Receiver
speaks r room s octets = speaks_into r s octets (lent_of room.forward)

-- what is given up: the outgoing message, or the session of a source
unfoldable pub given_up : Receiver → GivingUp → GivenUp
given_up r Message = stopping r
given_up r (Session src) = giving_up r src

-- `stop` and `drop S`
unfoldable pub gives_up : Receiver → GivingUp → Answered Receiver
gives_up r what = answered (given_up r what).receiver (given_up_text (given_up r what).answer)

-- `show`: the receiver stays as it is
unfoldable pub shows : Receiver → Answered Receiver
shows r = answered r (receiver_text r)
