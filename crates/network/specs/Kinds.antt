-- Promise: an address is of a kind exactly if it lies in that kind's range, both ends included (document 01, "The Network PDU"; document 02, W2).
--   Ranged k a     a lies in the range of kind k
--   KindExactly    the promise
use Rattle.std.specs.Prelude.{◌⊎◌, ◌≡◌, ℕ, ◌≤◌}
use Rattle.network.specs.declared.address.AddressKind.{AddressKind}
use Rattle.network.specs.declared.address.AddressKind.TheVariants.{Unassigned, Unicast, Virtual, Group, Reserved}
use Rattle.network.specs.Address.{kind_of}

-- an address has 16 bits, so the last group is 0xFFFF
abbrev pub Ranged : AddressKind → ℕ → Type 0
Ranged Unassigned a = a ≡ 0x0000
Ranged Unicast a = (0x0001 ≤ a) × (a ≤ 0x7FFF)
Ranged Virtual a = (0x8000 ≤ a) × (a ≤ 0xBFFF)
Ranged Group a = ((0xC000 ≤ a) × (a ≤ 0xFEFF)) ⊎ (0xFFFC ≤ a)
Ranged Reserved a = (0xFF00 ≤ a) × (a ≤ 0xFFFB)

abbrev pub KindExactly : Type 0
KindExactly = (a : ℕ) (k : AddressKind) → (kind_of a ≡ k → Ranged k a) × (Ranged k a → kind_of a ≡ k)
