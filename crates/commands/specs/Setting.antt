-- What is given before a setup, line by line: more keys, elements, groups or labels than a receiver holds are counted, so that the setup refuses them.
--   sixteen_of text      the sixteen octets that a text is
--   sequences_of texts   each element's next SEQ
--   giving s item line   the setup with what a line gives, where its fields fit
use Rattle.std.specs.Prelude.{Option, Some, None, option_map, option_and_then, Bool, List, [], ◌∷◌, ℕ, ◌+◌, min, length, drop, replicate, if◌then◌else◌}
use Rattle.common.specs.Lent.{Lent}
use Rattle.common.specs.Lists.{padded}
use Rattle.node.specs.declared.setup.Setup.{Setup}
use Rattle.node.specs.Setup.{with_network_key, with_application_key, with_device_key, with_elements, with_group, with_label, with_index}
use Rattle.node.specs.Addresses.{element_places}
use Rattle.text.specs.Field.{behind, field_of, fields}
use Rattle.text.specs.Hex.{filling}
use Rattle.text.specs.Number.{number_of, bit_of}
use Rattle.commands.specs.Request.{with_field, up_to}
use Rattle.commands.specs.declared.setting.Item.{Item}
use Rattle.commands.specs.declared.setting.Item.TheVariants.{NetKey, AppKey, DevKey, Label, Elements, Group, IvIndex, Relay}
use Rattle.commands.specs.declared.setting.Sequences.{Sequences}

-- the 16 octets of a key or a label, where a text is such
abbrev pub filled : Lent Bool → Option (List ℕ)
filled read = if read.answer then Some read.buffer else None

abbrev pub sixteen_of : List ℕ → Option (List ℕ)
sixteen_of text = filled (filling text (replicate 16 0))

-- the numbers that texts are, where each is one
abbrev pub one_more : Option ℕ → Option (List ℕ) → Option (List ℕ)
one_more number numbers = option_and_then (λ n. option_map (λ l. n ∷ l) numbers) number

abbrev pub numbers_of : List (List ℕ) → Option (List ℕ)
numbers_of [] = Some []
numbers_of (text ∷ texts) = one_more (number_of text) (numbers_of texts)

-- one more than there can be elements: so many are too many
abbrev pub past_elements : ℕ
past_elements = element_places + 1

-- each element's next SEQ: how many there are, counted as far as that, and as many as there can be elements, with zeros behind them
abbrev pub sequences : List ℕ → Sequences
sequences numbers = record { count = min (length numbers) past_elements; next = padded element_places numbers }

unfoldable pub sequences_of : List (List ℕ) → Option Sequences
sequences_of texts = option_map sequences (numbers_of texts)

-- what a line gives, by its fields: the last is all that follows, so that with a space too many it fits nothing
--   `netkey KEY`              the next network key, in order
--   `appkey N KEY`            the next application key, bound to network key N, from 0
--   `devkey KEY`              the device key
--   `label LABEL`             the next label, in order
--   `elements FIRST SEQ..`    the first element's address, then each element's next SEQ, none or more
--   `group ADDRESS`           one more group address listened to
--   `ivindex INDEX FLAG`      IV Index and update flag
--   `relay 0` or `relay 1`    relay off or on
unfoldable pub giving : Setup → Item → List ℕ → Option Setup
giving s NetKey line = option_map (with_network_key s) (sixteen_of (behind 1 line))
giving s AppKey line =
    with_field (up_to 0xFF (field_of 1 line)) None λ network.
    option_map (with_application_key s network) (sixteen_of (behind 2 line))
giving s DevKey line = option_map (with_device_key s) (sixteen_of (behind 1 line))
giving s Label line = option_map (with_label s) (sixteen_of (behind 1 line))
giving s Elements line =
    with_field (up_to 0xFFFF (field_of 1 line)) None λ first.
    option_map (λ q. with_elements s first q.count q.next) (sequences_of (drop 2 (fields line)))
giving s Group line = option_map (with_group s) (up_to 0xFFFF (behind 1 line))
giving s IvIndex line =
    with_field (number_of (field_of 1 line)) None λ iv.
    option_map (λ flag. with_index s iv flag s.relay) (bit_of (number_of (behind 2 line)))
giving s Relay line = option_map (λ on. with_index s s.iv s.flag on) (bit_of (number_of (behind 1 line)))
