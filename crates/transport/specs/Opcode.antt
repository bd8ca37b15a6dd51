-- The opcode of a control PDU has 7 bits, and its kind by its range (document 01, "Transport").
use Rattle.std.specs.Prelude.{ℕ, eqb, leb, if◌then◌else◌}
use Rattle.transport.specs.declared.opcode.OpcodeKind.{OpcodeKind}
use Rattle.transport.specs.declared.opcode.OpcodeKind.TheVariants.{OfAcknowledgement, OfControl, NoOpcode}

-- 0 acknowledgement; 0x01-0x7F control; what is above has more than 7 bits
unfoldable pub opcode_kind : ℕ → OpcodeKind
opcode_kind o =
    if eqb o 0x00 then OfAcknowledgement else
    if leb o 0x7F then OfControl else
    NoOpcode
