-- Promise: the answer to one line has at most 8,192 octets, and where so many are free behind what stands in a buffer it is written whole.
--   Fits text                             the text has at most 8,192 octets
--   FitsWhole                             what is written of such a text
--   HeardFits, SpokenFits, GivenUpFits,
--   SetUpFits, VettedFits, NotedFits,
--   ReceiverFits, ReadingsFit             the texts of each kind of line
-- A number may be of any size. The console lends 384 octets for a message or a PDU, and a receiver's lists are arrays of 16, 32 and 8.
use Rattle.std.specs.Prelude.{List, ◌++◌, Result, ◌≡◌, ℕ, ◌+◌, ◌≤◌, length, take}
use Rattle.transport.specs.declared.vetting.Refusal.{Refusal}
use Rattle.transport.specs.Segment.{message_octets}
use Rattle.memory.specs.Cache.{cache_entries}
use Rattle.memory.specs.Replay.{replay_entries}
use Rattle.memory.specs.Session.{session_slots}
use Rattle.receiver.specs.declared.answer.Answer.{Answer}
use Rattle.receiver.specs.declared.answer.Refusal as receiver
use Rattle.receiver.specs.declared.state.Receiver.{Receiver}
use Rattle.sending.specs.declared.answer.Answer.{Answer as Sending}
use Rattle.sensor.specs.declared.properties.Properties.{Properties}
use Rattle.commands.specs.declared.desk.Reply.{Reply}
use Rattle.text.specs.Written.{written}
use Rattle.answers.specs.declared.answer.Trials.{Trials}
use Rattle.answers.specs.Answer.{heard_text, forward_text, spoken_text, given_up_text, set_up_text, vetted_text, noted_text}
use Rattle.answers.specs.Looking.{receiver_text}
use Rattle.answers.specs.Readings.{readings_text}

-- a text is no longer than the room that the console keeps free
abbrev pub Fits : List ℕ → Type 0
Fits text = length text ≤ 8192

-- what fits is written whole where 8,192 octets are free
abbrev pub FitsWhole : Type 0
FitsWhole = (text out : List ℕ) (at : ℕ) → Fits text → at + 8192 ≤ length out → written out at text ≡ take at out ++ text

-- what became of a PDU that was heard, and what was forwarded
abbrev pub HeardFits : Type 0
HeardFits =
    (a : Result Answer receiver.Refusal) (t : Trials) (message pdu : List ℕ) → length message ≤ message_octets → length pdu ≤ message_octets → Fits (heard_text a t message ++ forward_text pdu)

-- a request to send
abbrev pub SpokenFits : Type 0
SpokenFits = (a : Result Sending receiver.Refusal) (pdu : List ℕ) → length pdu ≤ message_octets → Fits (spoken_text a pdu)

-- a request to give up
abbrev pub GivenUpFits : Type 0
GivenUpFits = (a : Result Unit receiver.Refusal) → Fits (given_up_text a)

-- a setup
abbrev pub SetUpFits : Type 0
SetUpFits = (a : Result Unit receiver.Refusal) → Fits (set_up_text a)

-- PDUs that are vetted
abbrev pub VettedFits : Type 0
VettedFits = (v : Result ℕ Refusal) (message : List ℕ) → length message ≤ message_octets → Fits (vetted_text v message)

-- a line that needs no receiver
abbrev pub NotedFits : Type 0
NotedFits = (r : Reply) → Fits (noted_text r)

-- all that a receiver holds
abbrev pub ReceiverFits : Type 0
ReceiverFits =
    (r : Receiver) → length r.cache.entries ≤ cache_entries → length r.replay ≤ replay_entries → length r.sessions ≤ session_slots → Fits (receiver_text r)

-- what a message says, however long it is
abbrev pub ReadingsFit : Type 0
ReadingsFit = (properties : Properties) (message : List ℕ) → Fits (readings_text properties message)
