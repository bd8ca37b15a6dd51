-- Which addresses a node answers to (document 01, "The Network PDU"; document 02, W2 and W8), and what it opens access messages by.
--   no_node              zeros
--   is_local node a      a is a local unicast address
--   listens node a       a is a group listened to
--   holds_label node a   a is the address of a label held
--   answers_to node a    a is one of these, or a fixed group
--   for_node node a      a PDU to a is for this node
--   held_by node         its application keys, device key and labels
use Rattle.std.specs.Prelude.{Bool, false, ◌&&◌, ◌||◌, not, ℕ, ◌+◌, min, eqb, leb, ltb, replicate}
use Rattle.common.specs.Search.{first}
use Rattle.keys.specs.declared.NetworkKeys.{NetworkKeys}
use Rattle.network.specs.Address.{is_reserved}
use Rattle.network.specs.Candidates.{network_key_places}
use Rattle.transport.specs.declared.securing.ApplicationKey.{ApplicationKey}
use Rattle.transport.specs.declared.securing.Held.{Held}
use Rattle.transport.specs.declared.securing.LabelUuid.{LabelUuid}
use Rattle.transport.specs.Securing.{application_key_places, label_places}
use Rattle.node.specs.declared.addresses.Key.{Key}
use Rattle.node.specs.declared.addresses.Node.{Node}

-- how many elements there can be, and group addresses listened to
abbrev pub element_places : ℕ
element_places = 8

abbrev pub group_places : ℕ
group_places = 8

-- ---- zeros
abbrev pub zero_key : Key
zero_key = record { octets = replicate 16 0 }

abbrev pub zero_material : NetworkKeys
zero_material = record { nid = 0; encryption = replicate 16 0; privacy = replicate 16 0 }

abbrev pub zero_application_key : ApplicationKey
zero_application_key = record { key = replicate 16 0; aid = 0; bound = 0 }

abbrev pub zero_label_uuid : LabelUuid
zero_label_uuid = record { octets = replicate 16 0; address = 0 }

abbrev pub no_node : Node
no_node =
    record {
      networks = 0;
      netkeys = replicate network_key_places zero_key;
      materials = replicate network_key_places zero_material;
      applications = 0;
      appkeys = replicate application_key_places zero_application_key;
      device = replicate 16 0;
      first = 0;
      elements = 0;
      listened = 0;
      groups = replicate group_places 0;
      labelled = 0;
      labels = replicate label_places zero_label_uuid;
      iv = 0;
      flag = false;
      relay = false;
    }

-- ---- which addresses
-- elements have consecutive addresses, and are at most 8
unfoldable pub is_local : Node → ℕ → Bool
is_local node a = leb node.first a && ltb a (node.first + min node.elements element_places)

-- one of the groups is it, and they are at most 8
unfoldable pub listens : Node → ℕ → Bool
listens node a = ltb (first (λ g. eqb g a) node.groups) (min node.listened group_places)

-- one of the labels has it, and they are at most 4
unfoldable pub holds_label : Node → ℕ → Bool
holds_label node a = ltb (first (λ (l : LabelUuid). eqb l.address a) node.labels) (min node.labelled label_places)

-- a local unicast address, 0xFFFF, 0xFFFE with relay on, a group listened to, or the address of a label held
unfoldable pub answers_to : Node → ℕ → Bool
answers_to node a = is_local node a || (eqb a 0xFFFF || ((eqb a 0xFFFE && node.relay) || (listens node a || holds_label node a)))

-- such an address, and not reserved, whatever the groups and elements are
unfoldable pub for_node : Node → ℕ → Bool
for_node node a = not (is_reserved a) && answers_to node a

-- what the node opens access messages by
abbrev pub held_by : Node → Held
held_by node =
    record { applications = node.applications; appkeys = node.appkeys; device = node.device; labelled = node.labelled; labels = node.labels }
