-- Promise: a node that setup makes holds what document 01's table allows, and its derived keys and addresses are derived from the keys and labels given; so a local address is unicast.
use Rattle.std.specs.Prelude.{true, List, [], ◌≡◌, ℕ, ◌+◌, ◌≤◌, ◌<◌, Some, length, get_or}
use Rattle.keys.specs.Derivation.{k2, k4, label_address}
use Rattle.network.specs.Address.{is_unicast}
use Rattle.network.specs.Candidates.{network_key_places, key_at}
use Rattle.transport.specs.Securing.{application_key_places, application_key_at, label_places, label_at}
use Rattle.node.specs.declared.addresses.Node.{Node}
use Rattle.node.specs.declared.setup.Made.{Made}
use Rattle.node.specs.declared.setup.Setup.{Setup}
use Rattle.node.specs.Addresses.{group_places, element_places, is_local}
use Rattle.node.specs.Setup.{is_group, making}

-- what holds of a node that setup made
pub record WellMade (node : Node) : Type 0 where
  -- network keys: 1 to 4
  pub networks_least : 1 ≤ node.networks
  pub networks_most : node.networks ≤ network_key_places
  -- application keys: 0 to 4
  pub applications_most : node.applications ≤ application_key_places
  -- elements: 1 to 8
  pub elements_least : 1 ≤ node.elements
  pub elements_most : node.elements ≤ element_places
  -- group addresses listened to: 0 to 8
  pub listened_most : node.listened ≤ group_places
  -- labels: 0 to 4
  pub labels_most : node.labelled ≤ label_places
  -- each array has all its places
  pub netkeys_places : length node.netkeys ≡ network_key_places
  pub materials_places : length node.materials ≡ network_key_places
  pub appkeys_places : length node.appkeys ≡ application_key_places
  pub groups_places : length node.groups ≡ group_places
  pub labels_places : length node.labels ≡ label_places
  -- NID, encryption key and privacy key are derived from the network key
  pub derived : (i : ℕ) → i < node.networks → key_at node.materials i ≡ k2 (get_or node.netkeys i (record { octets = [] })).octets
  -- AID is derived from the application key
  pub aid_derived : (i : ℕ) → i < node.applications → (application_key_at node.appkeys i).aid ≡ k4 (application_key_at node.appkeys i).key
  -- a label's address is derived from the label
  pub label_derived : (i : ℕ) → i < node.labelled → (label_at node.labels i).address ≡ label_address (label_at node.labels i).octets
  -- each application key is bound to one network key
  pub bound : (i : ℕ) → i < node.applications → (application_key_at node.appkeys i).bound < node.networks
  -- consecutive unicast addresses, all at most 0x7FFF
  pub first_least : 1 ≤ node.first
  pub last_most : node.first + node.elements ≤ 0x8000
  -- what is listened to are group addresses
  pub groups_only : (i : ℕ) → i < node.listened → is_group (get_or node.groups i 0) ≡ true
  -- flag 1 with IV Index 0 is refused
  pub index_least : node.flag ≡ true → 1 ≤ node.iv

-- each element's next SEQ: with 0x1000000 none is left
pub record NextWell (elements : ℕ) (next : List ℕ) : Type 0 where
  pub places : length next ≡ element_places
  pub most : (i : ℕ) → i < elements → get_or next i 0 ≤ 0x1000000

-- what setup makes is well made
abbrev pub MakesWell : Type 0
MakesWell = (s : Setup) (m : Made) → making s ≡ Some m → WellMade m.node × NextWell m.node.elements m.next

-- a local address is unicast
abbrev pub LocalIsUnicast : Type 0
LocalIsUnicast = (node : Node) → WellMade node → (a : ℕ) → is_local node a ≡ true → is_unicast a ≡ true
