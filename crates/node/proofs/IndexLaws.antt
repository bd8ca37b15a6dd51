-- A node is what setup fixes of it and its index: where both are the same the node is. Which addresses it answers to is fixed. Assumes nothing.
use mathlib.Core.Path.{◌≡◌, ap, ◌∙◌}
use Prim.Native.Nat.{ℕ}
use Rattle.node.specs.declared.addresses.Node.{Node}
use Rattle.node.specs.Addresses.{is_local, listens, holds_label, answers_to, for_node}
use Rattle.node.specs.Index.{Index, index_of, with_index, SameFixed, SameIndex}

pub same_node : (a b : Node) → SameFixed a b → SameIndex a b → a ≡ b
same_node a b f i = ap (λ (x : Node). with_index x (index_of a)) f ∙ ap (λ (x : Index). with_index b x) i

pub local_fixed : (a b : Node) → SameFixed a b → (address : ℕ) → is_local a address ≡ is_local b address
unfolding is_local
local_fixed a b f address = ap (λ (x : Node). is_local x address) f

pub for_fixed : (a b : Node) → SameFixed a b → (address : ℕ) → for_node a address ≡ for_node b address
unfolding answers_to for_node is_local listens holds_label
for_fixed a b f address = ap (λ (x : Node). for_node x address) f
