-- What a line says, by its command and its fields. The octets of a PDU or a message go to the first octets of a lent buffer.
--   room_of, segment_of, ack_of, drop_of, property_of   a line of that command
--   hear_of, access_of, control_of, readings_of         the same, and the buffer with its octets
--   vet_of                                              the same, and the buffer with the list of its PDUs
--   line_of line ready out                              what a line says, where a receiver is ready or not, and the buffer
use Rattle.std.specs.Prelude.{Option, Some, None, option_map, unwrap_or, Bool, List, [], ◌∷◌, ℕ, eqb, ltb, length, drop, if◌then◌else◌}
use Rattle.common.specs.Lent.{Lent, lent}
use Rattle.text.specs.Field.{field_of, behind, fields}
use Rattle.text.specs.Hex.{reading}
use Rattle.text.specs.Number.{number_of, bit_of}
use Rattle.commands.specs.declared.command.Order.{Order}
use Rattle.commands.specs.declared.command.Order.TheVariants as order
use Rattle.commands.specs.declared.command.Command.{Command}
use Rattle.commands.specs.declared.command.Command.TheVariants as command
use Rattle.commands.specs.declared.line.Sending.TheVariants.{Access, Control, Segment, Acknowledgement}
use Rattle.commands.specs.declared.line.GivingUp.TheVariants.{Message, Session}
use Rattle.commands.specs.declared.line.Line.{Line}
use Rattle.commands.specs.declared.line.Line.TheVariants.{Skipped, Unread, Give, SetUp, Room, Hear, Send, GiveUp, Show, Property, Forget, Readings, Vet}
use Rattle.commands.specs.Command.{command_of}
use Rattle.commands.specs.Listing.{listing}
use Rattle.commands.specs.Naming.{kind_of}
use Rattle.commands.specs.Request.{with_field, up_to, key_of, mic_of, request_of}

-- a line made of how many octets were read, and the buffer that they were read into
abbrev pub saying : Lent (Option ℕ) → (ℕ → Line) → Lent (Option Line)
saying read f = lent (option_map f read.answer) read.buffer

-- the same of the octets of a text
abbrev pub with_octets : List ℕ → List ℕ → (ℕ → Line) → Lent (Option Line)
with_octets text out f = saying (reading text out) f

-- `room FORWARD MESSAGE`, each at most 180 (384)
unfoldable pub room_of : List ℕ → Option Line
room_of line =
    with_field (up_to 0x180 (field_of 1 line)) None λ forward.
    with_field (up_to 0x180 (behind 2 line)) None λ message.
    Some (Room (record { forward = forward; message = message }))

-- `hear PDU`
unfoldable pub hear_of : List ℕ → List ℕ → Lent (Option Line)
hear_of line out = with_octets (behind 1 line) out λ len. Hear len

-- `access E DST TTL K J MIC BYTES`
unfoldable pub access_of : List ℕ → List ℕ → Lent (Option Line)
access_of line out =
    with_field (request_of line) (lent None out) λ request.
    with_field (key_of (field_of 5 line)) (lent None out) λ key.
    with_field (mic_of (field_of 6 line)) (lent None out) λ szmic.
    with_octets (behind 7 line) out λ len.
    Send (Access request key szmic len)

-- `control E DST TTL K O BYTES`
unfoldable pub control_of : List ℕ → List ℕ → Lent (Option Line)
control_of line out =
    with_field (request_of line) (lent None out) λ request.
    with_field (up_to 0xFF (field_of 5 line)) (lent None out) λ opcode.
    with_octets (behind 6 line) out λ len.
    Send (Control request opcode len)

-- `segment N`
unfoldable pub segment_of : List ℕ → Option Line
segment_of line = with_field (up_to 0xFF (behind 1 line)) None λ n. Some (Send (Segment n))

-- `ack K S`
unfoldable pub ack_of : List ℕ → Option Line
ack_of line =
    with_field (up_to 0xFF (field_of 1 line)) None λ k.
    with_field (up_to 0xFFFF (behind 2 line)) None λ s.
    Some (Send (Acknowledgement k s))

-- `drop S`
unfoldable pub drop_of : List ℕ → Option Line
drop_of line = with_field (up_to 0xFFFF (behind 1 line)) None λ s. Some (GiveUp (Session s))

-- a line that needs a receiver
unfoldable pub order_of : Order → List ℕ → List ℕ → Lent (Option Line)
order_of order.Room line out = lent (room_of line) out
order_of order.Hear line out = hear_of line out
order_of order.Access line out = access_of line out
order_of order.Control line out = control_of line out
order_of order.Segment line out = lent (segment_of line) out
order_of order.Ack line out = lent (ack_of line) out
order_of order.Stop line out = lent (Some (GiveUp Message)) out
order_of order.Drop line out = lent (drop_of line) out
order_of order.Show line out = lent (Some Show) out

-- `property P humidity` or `property P temperature`
unfoldable pub property_of : List ℕ → Option Line
property_of line =
    with_field (up_to 0xFFFF (field_of 1 line)) None λ property.
    with_field (kind_of (behind 2 line)) None λ kind.
    Some (Property property kind)

-- `readings MESSAGE`
unfoldable pub readings_of : List ℕ → List ℕ → Lent (Option Line)
readings_of line out = with_octets (behind 1 line) out λ len. Readings len

-- `vet CTL PDU ..`, no PDU or more. A buffer as long as the line has room for its list: a PDU of n octets takes n + 1 there, and at least so many
-- characters of the line with the space before it
unfoldable pub vet_of : List ℕ → List ℕ → Lent (Option Line)
vet_of line out =
    with_field (bit_of (number_of (field_of 1 line))) (lent None out) λ ctl.
    if ltb (length out) (length line) then lent None out else
    saying (listing (drop 2 (fields line)) out) λ len.
    Vet ctl len

-- a line of a command
unfoldable pub said_by : Command → List ℕ → List ℕ → Lent (Option Line)
said_by (command.Order o) line out = order_of o line out
said_by (command.Give item) line out = lent (Some (Give item)) out
said_by command.SetUp line out = lent (Some SetUp) out
said_by command.Property line out = lent (property_of line) out
said_by command.Forget line out = lent (Some Forget) out
said_by command.Readings line out = readings_of line out
said_by command.Vet line out = vet_of line out
said_by command.Unknown line out = lent None out

-- a line that fits no form is unread
abbrev pub or_unread : Lent (Option Line) → Lent Line
or_unread said = lent (unwrap_or said.answer Unread) said.buffer

-- a line with no octets, or that begins with #, is skipped; one of over 4,095 is unread
unfoldable pub line_of : List ℕ → Bool → List ℕ → Lent Line
line_of [] ready out = lent Skipped out
line_of (x ∷ line) ready out =
    if eqb x 0x23 then lent Skipped out else
    if ltb 4095 (length (x ∷ line)) then lent Unread out else
    or_unread (said_by (command_of (x ∷ line) ready) (x ∷ line) out)
