-- The IV Index and its flag stand apart from what setup fixes: keys, addresses, relay.
--   index_of node       the IV Index with its flag
--   with_index node i   the node under another index
--   fixed_of node       what setup fixes of it
--   SameFixed a b       the same but for the index
--   SameIndex a b       the same index
use Rattle.std.specs.Prelude.{Bool, false, ◌≡◌, ℕ}
use Rattle.node.specs.declared.addresses.Node.{Node}

pub record Index : Type 0 where
  pub iv : ℕ
  pub flag : Bool

abbrev pub index_of : Node → Index
index_of node = record { iv = node.iv; flag = node.flag }

-- the node under another index
abbrev pub with_index : Node → Index → Node
with_index node i =
    record {
      networks = node.networks;
      netkeys = node.netkeys;
      materials = node.materials;
      applications = node.applications;
      appkeys = node.appkeys;
      device = node.device;
      first = node.first;
      elements = node.elements;
      listened = node.listened;
      groups = node.groups;
      labelled = node.labelled;
      labels = node.labels;
      iv = i.iv;
      flag = i.flag;
      relay = node.relay;
    }

-- keys, addresses and relay, with no index
abbrev pub fixed_of : Node → Node
fixed_of node = with_index node (record { iv = 0; flag = false })

-- the same but for the index
abbrev pub SameFixed : Node → Node → Type 0
SameFixed a b = fixed_of a ≡ fixed_of b

abbrev pub SameIndex : Node → Node → Type 0
SameIndex a b = index_of a ≡ index_of b
