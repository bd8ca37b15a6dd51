-- An address has its kind by its range, and the kinds say which addresses a Network PDU may have (document 01, "The Network PDU"; document 02, W2).
--   kind_of a                       the kind of an address
--   is_unicast a, is_reserved a     whether it is unicast, or reserved
--   addresses_allowed ctl src dst   whether refusal 4 lets SRC and DST pass
use Rattle.std.specs.Prelude.{Bool, true, false, not, ◌&&◌, ℕ, eqb, leb, if◌then◌else◌}
use Rattle.network.specs.declared.address.AddressKind.{AddressKind}
use Rattle.network.specs.declared.address.AddressKind.TheVariants.{Unassigned, Unicast, Virtual, Group, Reserved}

-- 0 unassigned; 0x0001-0x7FFF unicast; 0x8000-0xBFFF virtual; 0xFF00-0xFFFB reserved; else, from 0xC000 on, group
unfoldable pub kind_of : ℕ → AddressKind
kind_of a =
    if eqb a 0x0000 then Unassigned else
    if leb a 0x7FFF then Unicast else
    if leb a 0xBFFF then Virtual else
    if leb a 0xFEFF then Group else
    if leb a 0xFFFB then Reserved else
    Group

-- the kind is unicast
abbrev pub unicast_kind : AddressKind → Bool
unicast_kind Unassigned = false
unicast_kind Unicast = true
unicast_kind Virtual = false
unicast_kind Group = false
unicast_kind Reserved = false

-- the address is unicast
unfoldable pub is_unicast : ℕ → Bool
is_unicast a = unicast_kind (kind_of a)

-- the kind is reserved
abbrev pub reserved_kind : AddressKind → Bool
reserved_kind Unassigned = false
reserved_kind Unicast = false
reserved_kind Virtual = false
reserved_kind Group = false
reserved_kind Reserved = true

-- the address is reserved
unfoldable pub is_reserved : ℕ → Bool
is_reserved a = reserved_kind (kind_of a)

-- a DST of this kind is not unassigned, and not virtual if CTL is 1
abbrev pub destination_kind : Bool → AddressKind → Bool
destination_kind ctl Unassigned = false
destination_kind ctl Unicast = true
destination_kind ctl Virtual = not ctl
destination_kind ctl Group = true
destination_kind ctl Reserved = true

-- SRC is unicast; DST is not unassigned, and not virtual if CTL is 1
unfoldable pub addresses_allowed : Bool → ℕ → ℕ → Bool
addresses_allowed ctl src dst = is_unicast src && destination_kind ctl (kind_of dst)
