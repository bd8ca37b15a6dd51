-- What the console does with a line: what it says is read, and done by the receiver or by the desk beside it.
--   starting                      the console at the start
--   notes d said line             a line that needs no receiver
--   sets_up c                     `setup`
--   stepping c said line octets   what a line leaves, by what it says; octets are those that it says
--   answering c line octets       what a whole line leaves; octets is the buffer for those that it says
use Rattle.std.specs.Prelude.{Result, Ok, Err, true, false, List, ℕ, take}
use Rattle.node.specs.Setup.{nothing}
use Rattle.receiver.specs.declared.answer.Refusal.{Refusal}
use Rattle.receiver.specs.declared.state.Receiver.{Receiver}
use Rattle.receiver.specs.Fresh.{setting_up}
use Rattle.commands.specs.declared.desk.Desk.{Desk}
use Rattle.commands.specs.declared.line.Line.{Line}
use Rattle.commands.specs.declared.line.Line.TheVariants as line
use Rattle.commands.specs.Desk.{at_start, after_setup, noting}
use Rattle.commands.specs.Line.{line_of}
use Rattle.answers.specs.Answer.{set_up_text, noted_text}
use Rattle.answers.specs.Readings.{readings_text}
use Rattle.console.specs.declared.step.Console.{Console}
use Rattle.console.specs.Answered.{Answered, answered}
use Rattle.console.specs.Bench.{vets}
use Rattle.console.specs.Receiving.{hears, speaks, gives_up, shows}

abbrev pub console : Desk → Receiver → Console
console d r = record { desk = d; receiver = r }

-- there is no receiver at the start: what stands in its place is that beside a refused setup
unfoldable pub starting : Console
starting = console at_start (setting_up nothing).receiver

-- a line that needs no receiver
unfoldable pub notes : Desk → Line → List ℕ → Answered Desk
notes d said line = answered (noting d said line).desk (noted_text (noting d said line).reply)

-- `readings MESSAGE`: the desk stays as it is
unfoldable pub tells : Desk → List ℕ → Answered Desk
tells d message = answered d (readings_text d.properties message)

-- the receiver stays, and the desk is what was noted
abbrev pub beside_receiver : Receiver → Answered Desk → Answered Console
beside_receiver r a = answered (console a.after r) a.text

-- the desk stays, and the receiver is what it was asked to be
abbrev pub beside_desk : Desk → Answered Receiver → Answered Console
beside_desk d a = answered (console d a.after) a.text

-- a receiver that is ready takes the place of the one that was there; a refused one does not
unfoldable pub set_up_as : Result Unit Refusal → Console → Receiver → Console
set_up_as (Ok _) c made = console (after_setup c.desk true) made
set_up_as (Err refusal) c made = console (after_setup c.desk false) c.receiver

-- `setup`: a receiver is made of what was given
unfoldable pub sets_up : Console → Answered Console
sets_up c =
    let made = setting_up c.desk.given in
    answered (set_up_as made.answer c made.receiver) (set_up_text made.answer)

-- what a line leaves, by what it says; octets are those that it says
unfoldable pub stepping : Console → Line → List ℕ → List ℕ → Answered Console
stepping c (line.Hear len) text octets = beside_desk c.desk (hears c.receiver c.desk.room (take len octets))
stepping c (line.Send sending) text octets = beside_desk c.desk (speaks c.receiver c.desk.room sending octets)
stepping c (line.GiveUp what) text octets = beside_desk c.desk (gives_up c.receiver what)
stepping c line.Show text octets = beside_desk c.desk (shows c.receiver)
stepping c line.SetUp text octets = sets_up c
stepping c (line.Readings len) text octets = beside_receiver c.receiver (tells c.desk (take len octets))
stepping c (line.Vet ctl len) text octets = beside_receiver c.receiver (vets c.desk ctl (take len octets))
stepping c (line.Give item) text octets = beside_receiver c.receiver (notes c.desk (line.Give item) text)
stepping c (line.Property property kind) text octets = beside_receiver c.receiver (notes c.desk (line.Property property kind) text)
stepping c line.Forget text octets = beside_receiver c.receiver (notes c.desk line.Forget text)
stepping c (line.Room room) text octets = beside_receiver c.receiver (notes c.desk (line.Room room) text)
stepping c line.Skipped text octets = beside_receiver c.receiver (notes c.desk line.Skipped text)
stepping c line.Unread text octets = beside_receiver c.receiver (notes c.desk line.Unread text)

-- a whole line: it is read, where a receiver is ready or not, and what it says is done
unfoldable pub answering : Console → List ℕ → List ℕ → Answered Console
answering c text octets =
    let said = line_of text c.desk.ready octets in
    stepping c said.answer text said.buffer
