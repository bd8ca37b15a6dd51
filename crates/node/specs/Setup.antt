-- Setup (document 01, "What the receiver holds"; document 02, W8): what is outside the numbers of the table makes no node.
--   nothing     nothing is given; `with_network_key` and the others fill in what is
--   valid s     everything is within the table
--   node_of s   the node: unused places zero, derived keys worked out
--   next_of s   each element's next SEQ
--   making s    what a call leaves
use Rattle.std.specs.Prelude.{Bool, true, false, ◌&&◌, not, List, [], ℕ, ◌+◌, eqb, leb, ltb, get_or, Option, Some, None, replicate, set, if◌then◌else◌}
use Rattle.common.specs.Lists.{tab}
use Rattle.common.specs.Search.{first}
use Rattle.keys.specs.declared.NetworkKeys.{NetworkKeys}
use Rattle.keys.specs.Derivation.{k2, k4, label_address}
use Rattle.network.specs.declared.address.AddressKind.{AddressKind}
use Rattle.network.specs.declared.address.AddressKind.TheVariants.{Unassigned, Unicast, Virtual, Group, Reserved}
use Rattle.network.specs.Address.{kind_of}
use Rattle.network.specs.Candidates.{network_key_places}
use Rattle.transport.specs.declared.securing.ApplicationKey.{ApplicationKey}
use Rattle.transport.specs.declared.securing.LabelUuid.{LabelUuid}
use Rattle.transport.specs.Securing.{application_key_places, label_places}
use Rattle.node.specs.declared.addresses.Key.{Key}
use Rattle.node.specs.declared.addresses.Label.{Label}
use Rattle.node.specs.declared.addresses.Node.{Node}
use Rattle.node.specs.declared.setup.BoundKey.{BoundKey}
use Rattle.node.specs.declared.setup.Made.{Made}
use Rattle.node.specs.declared.setup.Setup.{Setup}
use Rattle.node.specs.Addresses.{group_places, element_places, zero_key, zero_material, zero_application_key, zero_label_uuid}

-- zeros
abbrev pub zero_bound_key : BoundKey
zero_bound_key = record { key = replicate 16 0; network = 0 }

abbrev pub zero_label : Label
zero_label = record { octets = replicate 16 0 }

-- nothing is given: zeros, index 0 with flag 0, and relay off
abbrev pub nothing : Setup
nothing =
    record {
      networks = 0;
      netkeys = replicate network_key_places zero_key;
      applications = 0;
      appkeys = replicate application_key_places zero_bound_key;
      device = replicate 16 0;
      first = 0;
      elements = 0;
      next = replicate element_places 0;
      listened = 0;
      groups = replicate group_places 0;
      labelled = 0;
      labels = replicate label_places zero_label;
      iv = 0;
      flag = false;
      relay = false;
    }

-- the setup with other keys
abbrev pub with_keys : Setup → ℕ → List Key → ℕ → List BoundKey → List ℕ → Setup
with_keys s networks netkeys applications appkeys device =
    record {
      networks = networks;
      netkeys = netkeys;
      applications = applications;
      appkeys = appkeys;
      device = device;
      first = s.first;
      elements = s.elements;
      next = s.next;
      listened = s.listened;
      groups = s.groups;
      labelled = s.labelled;
      labels = s.labels;
      iv = s.iv;
      flag = s.flag;
      relay = s.relay;
    }

-- with other elements and groups
abbrev pub with_addresses : Setup → ℕ → ℕ → List ℕ → ℕ → List ℕ → Setup
with_addresses s address elements next listened groups =
    record {
      networks = s.networks;
      netkeys = s.netkeys;
      applications = s.applications;
      appkeys = s.appkeys;
      device = s.device;
      first = address;
      elements = elements;
      next = next;
      listened = listened;
      groups = groups;
      labelled = s.labelled;
      labels = s.labels;
      iv = s.iv;
      flag = s.flag;
      relay = s.relay;
    }

-- with other labels
abbrev pub with_labels : Setup → ℕ → List Label → Setup
with_labels s labelled labels =
    record {
      networks = s.networks;
      netkeys = s.netkeys;
      applications = s.applications;
      appkeys = s.appkeys;
      device = s.device;
      first = s.first;
      elements = s.elements;
      next = s.next;
      listened = s.listened;
      groups = s.groups;
      labelled = labelled;
      labels = labels;
      iv = s.iv;
      flag = s.flag;
      relay = s.relay;
    }

-- with another IV Index, update flag and relay
abbrev pub with_index : Setup → ℕ → Bool → Bool → Setup
with_index s iv flag relay =
    record {
      networks = s.networks;
      netkeys = s.netkeys;
      applications = s.applications;
      appkeys = s.appkeys;
      device = s.device;
      first = s.first;
      elements = s.elements;
      next = s.next;
      listened = s.listened;
      groups = s.groups;
      labelled = s.labelled;
      labels = s.labels;
      iv = iv;
      flag = flag;
      relay = relay;
    }

-- how keys, elements, groups and labels are counted: one more than a count, which stops once it is above `most`
abbrev pub counted : ℕ → ℕ → ℕ
counted most n = if ltb most n then n else n + 1

-- with the next network key: past the last place it is only counted
abbrev pub with_network_key : Setup → List ℕ → Setup
with_network_key s key =
    with_keys s (counted network_key_places s.networks) (set s.netkeys s.networks (record { octets = key })) s.applications s.appkeys s.device

-- with the next application key, bound to a network key
abbrev pub with_application_key : Setup → ℕ → List ℕ → Setup
with_application_key s network key =
    with_keys s s.networks s.netkeys (counted application_key_places s.applications) (set s.appkeys s.applications (record { key = key; network = network })) s.device

-- with another device key
abbrev pub with_device_key : Setup → List ℕ → Setup
with_device_key s key = with_keys s s.networks s.netkeys s.applications s.appkeys key

-- with so many elements from an address on, each with its next SEQ
abbrev pub with_elements : Setup → ℕ → ℕ → List ℕ → Setup
with_elements s address elements next = with_addresses s address elements next s.listened s.groups

-- with one more group address
abbrev pub with_group : Setup → ℕ → Setup
with_group s address = with_addresses s s.first s.elements s.next (counted group_places s.listened) (set s.groups s.listened address)

-- with one more label
abbrev pub with_label : Setup → List ℕ → Setup
with_label s label = with_labels s (counted label_places s.labelled) (set s.labels s.labelled (record { octets = label }))

-- none of the first n fails
abbrev pub every : {A : Type 0} → (A → Bool) → ℕ → List A → Bool
every p n l = leb n (first (λ x. not (p x)) l)

-- each application key is bound to one network key
unfoldable pub bound_within : Setup → Bool
bound_within s = every (λ (b : BoundKey). ltb b.network s.networks) s.applications s.appkeys

-- network keys 1 to 4, application keys 0 to 4
unfoldable pub keys_valid : Setup → Bool
keys_valid s = leb 1 s.networks && (leb s.networks network_key_places && (leb s.applications application_key_places && bound_within s))

-- each element's next SEQ: with 0x1000000 none is left
unfoldable pub next_within : Setup → Bool
next_within s = every (λ q. leb q 0x1000000) s.elements s.next

-- elements 1 to 8, consecutive unicast addresses, all at most 0x7FFF
unfoldable pub elements_valid : Setup → Bool
elements_valid s =
    leb 1 s.elements && (leb s.elements element_places && (leb 1 s.first && (leb (s.first + s.elements) 0x8000 && next_within s)))

abbrev pub group_kind : AddressKind → Bool
group_kind Unassigned = false
group_kind Unicast = false
group_kind Virtual = false
group_kind Group = true
group_kind Reserved = false

abbrev pub is_group : ℕ → Bool
is_group a = group_kind (kind_of a)

-- group addresses 0 to 8
unfoldable pub groups_valid : Setup → Bool
groups_valid s = leb s.listened group_places && every is_group s.listened s.groups

-- flag 1 with IV Index 0 is refused
unfoldable pub index_valid : Setup → Bool
index_valid s = not (s.flag && eqb s.iv 0)

-- and labels 0 to 4
unfoldable pub valid : Setup → Bool
valid s = keys_valid s && (elements_valid s && (groups_valid s && (leb s.labelled label_places && index_valid s)))

-- the places of each array: those used, and zeros behind them
unfoldable pub network_key_at : Setup → ℕ → Key
network_key_at s i = if ltb i s.networks then get_or s.netkeys i (record { octets = [] }) else zero_key

-- NID, encryption key and privacy key are derived once
unfoldable pub material_at : Setup → ℕ → NetworkKeys
material_at s i = if ltb i s.networks then k2 (get_or s.netkeys i (record { octets = [] })).octets else zero_material

-- and so is AID
unfoldable pub bound_key_at : Setup → ℕ → ApplicationKey
bound_key_at s i =
    let b = get_or s.appkeys i (record { key = []; network = 0 }) in
    if ltb i s.applications then record { key = b.key; aid = k4 b.key; bound = b.network } else
    zero_application_key

unfoldable pub next_at : Setup → ℕ → ℕ
next_at s i = if ltb i s.elements then get_or s.next i 0 else 0

unfoldable pub group_at : Setup → ℕ → ℕ
group_at s i = if ltb i s.listened then get_or s.groups i 0 else 0

-- a label's address is derived once, too
unfoldable pub label_uuid_at : Setup → ℕ → LabelUuid
label_uuid_at s i =
    let label = get_or s.labels i (record { octets = [] }) in
    if ltb i s.labelled then record { octets = label.octets; address = label_address label.octets } else
    zero_label_uuid

unfoldable pub node_of : Setup → Node
node_of s =
    record {
      networks = s.networks;
      netkeys = tab (network_key_at s) network_key_places;
      materials = tab (material_at s) network_key_places;
      applications = s.applications;
      appkeys = tab (bound_key_at s) application_key_places;
      device = s.device;
      first = s.first;
      elements = s.elements;
      listened = s.listened;
      groups = tab (group_at s) group_places;
      labelled = s.labelled;
      labels = tab (label_uuid_at s) label_places;
      iv = s.iv;
      flag = s.flag;
      relay = s.relay;
    }

unfoldable pub next_of : Setup → List ℕ
next_of s = tab (next_at s) element_places

-- the node of a valid setup; there is none of any other
unfoldable pub making : Setup → Option Made
making s = if valid s then Some (record { node = node_of s; next = next_of s }) else None
