-- How a node of the training site is set up: with the keys of MP's sample data (MP 8.2).
--   setting address next iv flag    the setup
--   ready address next iv flag      the node so set up
use Rattle.std.specs.Prelude.{Bool, false, List, [], ◌∷◌, ℕ, replicate}
use Rattle.node.specs.declared.setup.Setup.{Setup}
use Rattle.node.specs.Setup.{nothing, with_network_key, with_application_key, with_device_key, with_elements, with_index}
use Rattle.receiver.specs.declared.state.Receiver.{Receiver}
use Rattle.receiver.specs.Fresh.{setting_up}

abbrev pub network_key : List ℕ
network_key =
    0x7d ∷ 0xd7 ∷ 0x36 ∷ 0x4c ∷ 0xd8 ∷ 0x42 ∷ 0xad ∷ 0x18 ∷ 0xc1 ∷ 0x7c ∷ 0x2b ∷ 0x82 ∷ 0x0c ∷ 0x84 ∷ 0xc3 ∷ 0xd6 ∷ []

abbrev pub application_key : List ℕ
application_key =
    0x63 ∷ 0x96 ∷ 0x47 ∷ 0x71 ∷ 0x73 ∷ 0x4f ∷ 0xbd ∷ 0x76 ∷ 0xe3 ∷ 0xb4 ∷ 0x05 ∷ 0x19 ∷ 0xd1 ∷ 0xd9 ∷ 0x4a ∷ 0x48 ∷ []

abbrev pub device_key : List ℕ
device_key =
    0x9d ∷ 0x6d ∷ 0xd0 ∷ 0xe9 ∷ 0x6e ∷ 0xb2 ∷ 0x5d ∷ 0xc1 ∷ 0x9a ∷ 0x40 ∷ 0xed ∷ 0x99 ∷ 0x14 ∷ 0xf8 ∷ 0xf0 ∷ 0x3f ∷ []

-- one network key, an application key bound to it, a device key; one element with its address and next SEQ; no groups, relay off
abbrev pub setting : ℕ → ℕ → ℕ → Bool → Setup
setting address next iv flag =
    let keyed = with_device_key (with_application_key (with_network_key nothing network_key) 0 application_key) device_key in
    with_index (with_elements keyed address 1 (next ∷ replicate 7 0)) iv flag false

-- the node so set up; where setup refuses, one of zeros
abbrev pub ready : ℕ → ℕ → ℕ → Bool → Receiver
ready address next iv flag = (setting_up (setting address next iv flag)).receiver
