-- Which command a line is, by its first field, its word; a command that has no other field is the whole line.
--   apart line word                               the words that have nothing to do with a receiver
--   giving_key line word, setting_up line word    these and the words that lead to a receiver
--   speaking line word, with_receiver line word   these and the words that need one
--   command_of line ready                         the command of a line, where a receiver is ready or not
use Rattle.std.specs.Prelude.{Bool, List, ℕ, if◌then◌else◌}
use Rattle.common.specs.Lists.{same}
use Rattle.text.specs.Field.{field_of}
use Rattle.text.specs.Octets.{octets}
use Rattle.commands.specs.declared.setting.Item.TheVariants.{NetKey, AppKey, DevKey, Label, Elements, Group, IvIndex, Relay}
use Rattle.commands.specs.declared.command.Order.TheVariants as order
use Rattle.commands.specs.declared.command.Command.{Command}
use Rattle.commands.specs.declared.command.Command.TheVariants.{Give, SetUp, Order, Property, Forget, Readings, Vet, Unknown}

-- the words that have nothing to do with a receiver: those that read what sensors say, and `vet`
unfoldable pub apart : List ℕ → List ℕ → Command
apart line word =
    if same word (octets "property") then Property else
    if same line (octets "properties") then Forget else
    if same word (octets "readings") then Readings else
    if same word (octets "vet") then Vet else
    Unknown

-- these, and the words that give a key or a label
unfoldable pub giving_key : List ℕ → List ℕ → Command
giving_key line word =
    if same word (octets "netkey") then Give NetKey else
    if same word (octets "appkey") then Give AppKey else
    if same word (octets "devkey") then Give DevKey else
    if same word (octets "label") then Give Label else
    apart line word

-- these, and the others that lead to a receiver
unfoldable pub setting_up : List ℕ → List ℕ → Command
setting_up line word =
    if same word (octets "elements") then Give Elements else
    if same word (octets "group") then Give Group else
    if same word (octets "ivindex") then Give IvIndex else
    if same word (octets "relay") then Give Relay else
    if same line (octets "setup") then SetUp else
    giving_key line word

-- these, and the words that send
unfoldable pub speaking : List ℕ → List ℕ → Command
speaking line word =
    if same word (octets "access") then Order order.Access else
    if same word (octets "control") then Order order.Control else
    if same word (octets "segment") then Order order.Segment else
    if same word (octets "ack") then Order order.Ack else
    setting_up line word

-- these, and the others that need a receiver
unfoldable pub with_receiver : List ℕ → List ℕ → Command
with_receiver line word =
    if same word (octets "room") then Order order.Room else
    if same word (octets "hear") then Order order.Hear else
    if same line (octets "stop") then Order order.Stop else
    if same word (octets "drop") then Order order.Drop else
    if same line (octets "show") then Order order.Show else
    speaking line word

-- the command of a line: where there is no receiver yet, those that need one are no commands
unfoldable pub command_of : List ℕ → Bool → Command
command_of line ready = if ready then with_receiver line (field_of 0 line) else setting_up line (field_of 0 line)
