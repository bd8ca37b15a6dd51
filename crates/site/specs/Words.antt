-- What a node said and what it answers, in words.
--   made answer                how many octets of the buffer are the PDU that was sent
--   handed_up answer           how many octets of the message buffer are the message that is handed up
--   said_text seq answer pdu   what was sent with a SEQ, or the number of the refusal
--   answer_text answer         what a node answers to a PDU
use Rattle.std.specs.Prelude.{Result, Ok, Err, List, ◌++◌, ℕ, take}
use Prim.Native.String.{String}
use Rattle.memory.specs.declared.outgoing.Effect.{Effect}
use Rattle.memory.specs.declared.outgoing.Effect.TheVariants as effect
use Rattle.receiver.specs.Answer.{refusal_number}
use Rattle.receiver.specs.declared.answer.Refusal.{Refusal}
use Rattle.receiver.specs.declared.answer.Answer as heard
use Rattle.receiver.specs.declared.answer.Answer.TheVariants as hearing
use Rattle.sending.specs.declared.answer.Answer as said
use Rattle.sending.specs.declared.answer.Answer.TheVariants as sending
use Rattle.text.specs.Hex.{hex_text}
use Rattle.text.specs.Number.{number_text}
use Rattle.text.specs.Octets.{octets}
use Rattle.text.specs.Refusal.{refused_text}

-- none where sending refuses
abbrev pub made : Result said.Answer Refusal → ℕ
made (Ok (sending.Sent len)) = len
made (Ok (sending.Started len segn)) = len
made (Err refusal) = 0

-- none where no message is handed up
abbrev pub handed_up : Result heard.Answer Refusal → ℕ
handed_up (Err refusal) = 0
handed_up (Ok (hearing.Stored src auth bits)) = 0
handed_up (Ok (hearing.Repeated src auth bits)) = 0
handed_up (Ok (hearing.Access src dst network opener pair len)) = len
handed_up (Ok (hearing.Control src dst network opcode pair len)) = len
handed_up (Ok (hearing.Acknowledgement src bits effect)) = 0

-- a label, a number behind it in w digits, and an end
abbrev pub named : String → ℕ → ℕ → String → List ℕ
named label w n end = octets label ++ number_text w n ++ octets end

-- a PDU that was sent, with its SEQ
abbrev pub sent_text : ℕ → List ℕ → List ℕ
sent_text seq pdu = octets "SEQ " ++ number_text 6 seq ++ (octets ": " ++ (hex_text pdu ++ octets "\n"))

-- pdu is the buffer that was lent
unfoldable pub said_text : ℕ → Result said.Answer Refusal → List ℕ → List ℕ
said_text seq (Ok (sending.Sent len)) pdu = sent_text seq (take len pdu)
said_text seq (Ok (sending.Started len segn)) pdu = sent_text seq (take len pdu)
said_text seq (Err refusal) pdu = refused_text (refusal_number refusal)

-- what an acknowledgement did to the message that the node keeps
unfoldable pub effect_text : Effect → List ℕ
effect_text effect.Nothing = octets "nothing is marked: "
effect_text effect.Marked = octets "segments are marked as heard: "
effect_text effect.Completed = octets "all segments are heard: "
effect_text effect.Cancelled = octets "the message is cancelled: "

-- which segments came, as bits, bit 0 for segment 0; or whose message is handed up
unfoldable pub answer_text : Result heard.Answer Refusal → List ℕ
answer_text (Err refusal) = refused_text (refusal_number refusal)
answer_text (Ok (hearing.Stored src auth bits)) = named "segment stored, places filled " 8 bits "\n"
answer_text (Ok (hearing.Repeated src auth bits)) = named "repeat, places filled " 8 bits "\n"
answer_text (Ok (hearing.Access src dst network opener pair len)) = named "access message from " 4 src ":\n"
answer_text (Ok (hearing.Control src dst network opcode pair len)) = named "control message from " 4 src ":\n"
answer_text (Ok (hearing.Acknowledgement src bits effect)) = effect_text effect ++ named "acknowledgement, places filled " 8 bits "\n"
