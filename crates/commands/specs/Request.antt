-- The fields of a line: numbers, and those of a line that sends; none where a field does not fit.
--   with_field o x f     what f makes of what a field says; x where it does not fit
--   up_to most text      a number of at most so much
--   ttl_of text          a TTL
--   destination_of text  where a message is sent to
--   key_of text          the key of an access message
--   mic_of text          the size of its MIC
--   request_of line      element, destination, TTL and network key
use Rattle.std.specs.Prelude.{Option, Some, None, option_map, Bool, true, false, List, ℕ, eqb, take, drop, if◌then◌else◌}
use Rattle.common.specs.Lists.{same}
use Rattle.transport.specs.declared.securing.MessageKey.{MessageKey}
use Rattle.transport.specs.declared.securing.MessageKey.TheVariants.{Application, Device}
use Rattle.sending.specs.declared.request.Destination.{Destination}
use Rattle.sending.specs.declared.request.Destination.TheVariants.{Address, Label}
use Rattle.sending.specs.declared.request.Request.{Request}
use Rattle.text.specs.Field.{field_of}
use Rattle.text.specs.Number.{number_of, at_most}
use Rattle.text.specs.Octets.{octets}

-- what is made of what a field says; x where it does not fit
abbrev pub with_field : {A B : Type 0} → Option A → B → (A → B) → B
with_field None x f = x
with_field (Some a) x f = f a

-- a number of at most so much
abbrev pub up_to : ℕ → List ℕ → Option ℕ
up_to most text = at_most most (number_of text)

-- a TTL: a number, or - where it is left unnamed
unfoldable pub ttl_of : List ℕ → Option (Option ℕ)
ttl_of text = if same text (octets "-") then Some None else option_map Some (up_to 0xFF text)

-- a destination: an address, or `label:` with a label's number behind it
unfoldable pub destination_of : List ℕ → Option Destination
destination_of text =
    if same (take 6 text) (octets "label:") then option_map Label (up_to 0xFF (drop 6 text)) else
    option_map Address (up_to 0xFFFF text)

-- the key of an access message: an application key's number, or `dev`
unfoldable pub key_of : List ℕ → Option MessageKey
key_of text = if same text (octets "dev") then Some Device else option_map Application (up_to 0xFF text)

-- the size of the MIC, 4 or 8: whether it is 8
unfoldable pub mic_of : List ℕ → Option Bool
mic_of text =
    with_field (up_to 0xFF text) None λ n.
    if eqb n 4 then Some false else
    if eqb n 8 then Some true else
    None

-- `E DST TTL K`, from field 1 on
unfoldable pub request_of : List ℕ → Option Request
request_of line =
    with_field (up_to 0xFF (field_of 1 line)) None λ e.
    with_field (destination_of (field_of 2 line)) None λ dst.
    with_field (ttl_of (field_of 3 line)) None λ ttl.
    with_field (up_to 0xFF (field_of 4 line)) None λ k.
    Some (record { element = e; dst = dst; ttl = ttl; network = k })
