-- What every request to send must be (document 01, "Sending"; document 02, W8).
--   ttl_of t                  the TTL of a PDU
--   dst_of node d             the DST of a destination: an address, or a label held
--   additional_for node d     the additional data that a message to it is secured with
--   destination_allowed n d   it may be sent to
--   request_allowed n q       element, destination, TTL and network key are within the rules
use Rattle.std.specs.Prelude.{Bool, true, false, ◌&&◌, not, Option, None, Some, List, [], ℕ, min, eqb, leb, ltb}
use Rattle.network.specs.declared.address.AddressKind.{AddressKind}
use Rattle.network.specs.declared.address.AddressKind.TheVariants.{Unassigned, Unicast, Virtual, Group, Reserved}
use Rattle.network.specs.Address.{kind_of, is_unicast}
use Rattle.network.specs.Candidates.{network_key_places}
use Rattle.transport.specs.Securing.{label_places, label_at}
use Rattle.node.specs.declared.addresses.Node.{Node}
use Rattle.node.specs.Addresses.{element_places}
use Rattle.sending.specs.declared.request.Destination.{Destination}
use Rattle.sending.specs.declared.request.Destination.TheVariants.{Address, Label}
use Rattle.sending.specs.declared.request.Request.{Request}

-- a TTL left unnamed
abbrev pub unnamed_ttl : ℕ
unnamed_ttl = 4

-- the TTL of a PDU
abbrev pub ttl_of : Option ℕ → ℕ
ttl_of None = unnamed_ttl
ttl_of (Some n) = n

-- TTL 1 is refused; a TTL has 7 bits
abbrev pub ttl_allowed : Option ℕ → Bool
ttl_allowed None = true
ttl_allowed (Some n) = not (eqb n 1) && leb n 127

-- refusal 4's rule, and neither virtual nor reserved
abbrev pub sendable_kind : AddressKind → Bool
sendable_kind Unassigned = false
sendable_kind Unicast = true
sendable_kind Virtual = false
sendable_kind Group = true
sendable_kind Reserved = false

-- the DST of a destination: of a label the label's address
abbrev pub dst_of : Node → Destination → ℕ
dst_of node (Address a) = a
dst_of node (Label j) = (label_at node.labels j).address

-- what a message is secured with besides: to a label the label's octets, to an address nothing
abbrev pub additional_for : Node → Destination → List ℕ
additional_for node (Address a) = []
additional_for node (Label j) = (label_at node.labels j).octets

-- an address of a kind that may be sent to, or a label that is held
abbrev pub destination_allowed : Node → Destination → Bool
destination_allowed node (Address a) = sendable_kind (kind_of a)
destination_allowed node (Label j) = ltb j (min node.labelled label_places)

-- the destination is a unicast address
abbrev pub to_unicast : Destination → Bool
to_unicast (Address a) = is_unicast a
to_unicast (Label j) = false

-- the destination is an address, and no label
abbrev pub to_address : Destination → Bool
to_address (Address a) = true
to_address (Label j) = false

-- the element and the network key are there; destination and TTL may be sent to and with
unfoldable pub request_allowed : Node → Request → Bool
request_allowed node q =
    ltb q.element (min node.elements element_places)
    && (ltb q.network (min node.networks network_key_places) && (destination_allowed node q.dst && ttl_allowed q.ttl))
