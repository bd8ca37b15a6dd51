-- What stands beside the receiver: whether there is one, what was given since the last `setup`, the lengths of the two buffers lent, and which
-- properties are named.
--   at_start              the desk at the start
--   after_setup d ready   after a `setup`, ready or refused
--   noting d said text    what a line leaves that needs no receiver, and what it is answered
use Rattle.std.specs.Prelude.{Option, Some, None, Result, Ok, Err, Bool, false, ◌||◌, List, ℕ}
use Rattle.sensor.specs.declared.properties.Refused.{Refused}
use Rattle.sensor.specs.declared.properties.Properties.{Properties}
use Rattle.sensor.specs.Properties.{no_properties, naming}
use Rattle.node.specs.declared.setup.Setup.{Setup}
use Rattle.node.specs.Setup.{nothing}
use Rattle.commands.specs.declared.desk.Desk.{Desk}
use Rattle.commands.specs.declared.desk.Noted.{Noted}
use Rattle.commands.specs.declared.desk.Room.{Room}
use Rattle.commands.specs.declared.desk.Reply.{Reply}
use Rattle.commands.specs.declared.desk.Reply.TheVariants as reply
use Rattle.commands.specs.declared.line.Line.{Line}
use Rattle.commands.specs.declared.line.Line.TheVariants as line
use Rattle.commands.specs.Setting.{giving}

-- no receiver, nothing given, buffers of 1d and 180 octets, in hex, and no property named
abbrev pub at_start : Desk
at_start = record { ready = false; given = nothing; room = record { forward = 0x1d; message = 0x180 }; properties = no_properties }

-- a refused `setup` leaves the receiver that was there; both forget the lines that led to it, and leave the room and the names
abbrev pub after_setup : Desk → Bool → Desk
after_setup d ready = record { ready = d.ready || ready; given = nothing; room = d.room; properties = d.properties }

-- what a line is answered, and the desk then
abbrev pub noted : Desk → Reply → Noted
noted d answer = record { desk = d; reply = answer }

-- a line that leads to `setup`: unread where its fields do not fit
abbrev pub noting_given : Desk → Option Setup → Noted
noting_given d (Some given) = noted (record { ready = d.ready; given = given; room = d.room; properties = d.properties }) reply.Ok
noting_given d None = noted d reply.Unread

-- `room FORWARD MESSAGE`: the lengths of the two buffers lent from then on
abbrev pub noting_room : Desk → Room → Noted
noting_room d room = noted (record { ready = d.ready; given = d.given; room = room; properties = d.properties }) reply.Ok

-- other properties are named
abbrev pub with_properties : Desk → Properties → Desk
with_properties d properties = record { ready = d.ready; given = d.given; room = d.room; properties = properties }

-- `property P humidity`, `property P temperature`: one property more is named; where it is refused, the desk is as it was
abbrev pub noting_property : Desk → Result Properties Refused → Noted
noting_property d (Ok after) = noted (with_properties d after) reply.Ok
noting_property d (Err r) = noted d reply.Refused

-- `properties`: none is named
abbrev pub forgetting : Desk → Noted
forgetting d = noted (with_properties d no_properties) reply.Ok

-- a line that is skipped writes nothing; `setup`, what needs a receiver, readings and what is vetted are not noted here
unfoldable pub noting : Desk → Line → List ℕ → Noted
noting d (line.Give item) text = noting_given d (giving d.given item text)
noting d (line.Room room) text = noting_room d room
noting d line.Skipped text = noted d reply.Silence
noting d line.Unread text = noted d reply.Unread
noting d line.SetUp text = noted d reply.Unread
noting d (line.Hear len) text = noted d reply.Unread
noting d (line.Send what) text = noted d reply.Unread
noting d (line.GiveUp what) text = noted d reply.Unread
noting d line.Show text = noted d reply.Unread
noting d (line.Property property kind) text = noting_property d (naming d.properties property kind)
noting d line.Forget text = forgetting d
noting d (line.Readings len) text = noted d reply.Unread
noting d (line.Vet ctl len) text = noted d reply.Unread
