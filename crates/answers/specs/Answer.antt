-- The console's answers as text. IV Indexes and bits have 8 digits, sequence numbers 6, addresses 4, other numbers no zeros in front.
--   heard_text a t message   what became of a PDU that was heard, t the numbers of keys tried
--   forward_text pdu         what was forwarded, and the newline
--   spoken_text a pdu        a request to send
--   given_up_text a          a request to give up
--   set_up_text a            a setup
--   vetted_text v message    PDUs that are vetted
--   noted_text r             a line that needs no receiver
use Rattle.std.specs.Prelude.{List, [], ◌∷◌, ◌++◌, Result, Ok, Err, ℕ, ◌+◌, take}
use Prim.Native.String.{String}
use Rattle.common.specs.Paper.{number_of}
use Rattle.memory.specs.declared.outgoing.Effect.{Effect}
use Rattle.memory.specs.declared.outgoing.Effect.TheVariants as effect
use Rattle.memory.specs.declared.pair.Pair.{Pair}
use Rattle.transport.specs.declared.securing.Opener.{Opener}
use Rattle.transport.specs.declared.securing.Opener.TheVariants.{Application, Labelled, Device}
use Rattle.transport.specs.declared.vetting.Refusal as refusal
use Rattle.transport.specs.declared.vetting.Refusal.TheVariants as vetted
use Rattle.transport.specs.Vetting as vetting
use Rattle.receiver.specs.declared.answer.Answer.{Answer}
use Rattle.receiver.specs.declared.answer.Answer.TheVariants.{Stored, Repeated, Access, Control, Acknowledgement}
use Rattle.receiver.specs.declared.answer.Refusal as receiver
use Rattle.receiver.specs.Answer.{refusal_number}
use Rattle.sending.specs.declared.answer.Answer.{Answer as Sending}
use Rattle.sending.specs.declared.answer.Answer.TheVariants as sending
use Rattle.sensor.specs.Properties.{paper}
use Rattle.commands.specs.declared.desk.Reply.{Reply}
use Rattle.commands.specs.declared.desk.Reply.TheVariants as reply
use Rattle.text.specs.Octets.{octets}
use Rattle.text.specs.Hex.{hex_text}
use Rattle.text.specs.Number.{number_text}
use Rattle.text.specs.Refusal.{refusal_text, refused_text}
use Rattle.answers.specs.declared.answer.Trials.{Trials}

-- a label, and a number behind it in at least w digits
abbrev pub named : String → ℕ → ℕ → List ℕ
named label w n = octets label ++ number_text w n

abbrev pub trials_text : Trials → List ℕ
trials_text t = named " trials " 1 t.network ++ named " " 1 t.application

-- the label stands before the sequence number
abbrev pub pair_text : Pair → List ℕ → List ℕ
pair_text p label = named " iv " 8 p.iv ++ (label ++ number_text 6 p.seq)

abbrev pub segments_text : ℕ → Pair → ℕ → List ℕ
segments_text src auth bits = named " src " 4 src ++ (pair_text auth (octets " auth ") ++ named " bits " 8 bits)

abbrev pub route_text : ℕ → ℕ → List ℕ
route_text src dst = named " src " 4 src ++ named " dst " 4 dst

-- the network key, and the application key
abbrev pub keys_text : ℕ → ℕ → List ℕ
keys_text network key = named " net " 1 network ++ named " key " 1 key

-- the network key, and what opened the message: the label by its place stands before both keys
abbrev pub opener_text : ℕ → Opener → List ℕ
opener_text network (Application key) = keys_text network key
opener_text network (Labelled key label) = named " label " 1 label ++ keys_text network key
opener_text network Device = named " net " 1 network ++ octets " key dev"

abbrev pub message_text : Pair → Trials → List ℕ → List ℕ
message_text p t message = pair_text p (octets " seq ") ++ (trials_text t ++ (octets " message " ++ hex_text message))

abbrev pub effect_text : Effect → List ℕ
effect_text effect.Nothing = octets " nothing"
effect_text effect.Marked = octets " marked"
effect_text effect.Completed = octets " complete"
effect_text effect.Cancelled = octets " cancelled"

abbrev pub access_text : ℕ → ℕ → ℕ → Opener → List ℕ
access_text src dst network opener = octets "access" ++ (route_text src dst ++ opener_text network opener)

abbrev pub control_text : ℕ → ℕ → ℕ → ℕ → List ℕ
control_text src dst network opcode = octets "control" ++ (route_text src dst ++ (named " net " 1 network ++ named " opcode " 1 opcode))

abbrev pub acknowledgement_text : ℕ → ℕ → Effect → Trials → List ℕ
acknowledgement_text src bits effect t = named "acknowledgement src " 4 src ++ (named " bits " 8 bits ++ (effect_text effect ++ trials_text t))

-- what became of a PDU that was heard; the message stands in the first octets of a buffer
unfoldable pub heard_text : Result Answer receiver.Refusal → Trials → List ℕ → List ℕ
heard_text (Err refusal) t message = refusal_text (refusal_number refusal) ++ trials_text t
heard_text (Ok (Stored src auth bits)) t message = octets "stored" ++ (segments_text src auth bits ++ trials_text t)
heard_text (Ok (Repeated src auth bits)) t message = octets "repeat" ++ (segments_text src auth bits ++ trials_text t)
heard_text (Ok (Access src dst network opener pair len)) t message = access_text src dst network opener ++ message_text pair t (take len message)
heard_text (Ok (Control src dst network opcode pair len)) t message = control_text src dst network opcode ++ message_text pair t (take len message)
heard_text (Ok (Acknowledgement src bits effect)) t message = acknowledgement_text src bits effect t

-- what was forwarded, if anything, and the newline
abbrev pub forward_text : List ℕ → List ℕ
forward_text [] = octets "\n"
forward_text (o ∷ pdu) = octets " forward " ++ (hex_text (o ∷ pdu) ++ octets "\n")

-- what a request to send is answered; the PDU stands in the first octets of a buffer
unfoldable pub spoken_text : Result Sending receiver.Refusal → List ℕ → List ℕ
spoken_text (Ok (sending.Sent len)) pdu = octets "sent " ++ (hex_text (take len pdu) ++ octets "\n")
spoken_text (Ok (sending.Started len segn)) pdu = octets "started " ++ (hex_text (take len pdu) ++ (named " segments " 1 (segn + 1) ++ octets "\n"))
spoken_text (Err refusal) pdu = refused_text (refusal_number refusal)

unfoldable pub given_up_text : Result Unit receiver.Refusal → List ℕ
given_up_text (Ok _) = octets "given up\n"
given_up_text (Err refusal) = refused_text (refusal_number refusal)

unfoldable pub set_up_text : Result Unit receiver.Refusal → List ℕ
set_up_text (Ok _) = octets "ready\n"
set_up_text (Err refusal) = refused_text (refusal_number refusal)

-- PDUs that are vetted; what is approved stands in the first octets of a buffer
unfoldable pub vetted_text : Result ℕ refusal.Refusal → List ℕ → List ℕ
vetted_text (Ok len) message = octets "approved message " ++ (hex_text (take len message) ++ octets "\n")
vetted_text (Err vetted.ShortBuffer) message = refused_text (number_of (vetting.paper (Err vetted.ShortBuffer)))
vetted_text (Err (vetted.Fault k)) message = refusal_text (number_of (vetting.paper (Err (vetted.Fault k)))) ++ (named " at " 1 k ++ octets "\n")
vetted_text (Err vetted.Unfinished) message = refused_text (number_of (vetting.paper (Err vetted.Unfinished)))

unfoldable pub noted_text : Reply → List ℕ
noted_text reply.Ok = octets "ok\n"
noted_text reply.Unread = octets "unread\n"
noted_text reply.Silence = []
noted_text reply.Refused = refused_text (paper (Err (record {})))
