-- What an element stamps on a PDU: its address, which is local and leads back to it, and its next SEQ; and the IV Index that is sent with, which is the current one or the
-- one before. Assumes nothing.
--   Stamps, stamps                 a header, stamped
--   address_local                  an element's address is local
--   element_back, element_low      its address leads back to it, and a local address to one of eight elements
--   address_back                   which has that address
--   sending_near                   the IV Index that is sent with
--   address_fixed, local_fixed, element_fixed   setup fixed which element has which address
use mathlib.Core.Bool.{true}
use mathlib.Core.Logic.{◌⊎◌}
use mathlib.Core.Path.{◌≡◌, refl, ap}
use Prim.Native.Nat.{ℕ, ◌+◌, ◌<◌, min}
use native.Mathlib.Omega.{arith}
use Rattle.network.specs.declared.header.Header.{Header}
use Rattle.network.proofs.IvIndexLaws.{sent_near}
use Rattle.node.specs.declared.addresses.Node.{Node}
use Rattle.node.specs.Addresses.{element_places, is_local}
use Rattle.node.specs.Index.{SameFixed}
use Rattle.node.specs.Made.{WellMade}
use Rattle.node.proofs.AddressesLaws.{local_within, local_bounds}
use Rattle.receiver.specs.declared.state.Receiver.{Receiver}
use Rattle.sending.specs.Segment.{element_at}
use Rattle.sending.specs.Transmission.{sending_iv, address_of, next_seq, stamped}

-- the header x is h with the element's address and next SEQ; the key stays
pub record Stamps (r : Receiver) (element : ℕ) (h x : Header) : Type 0 where
  pub from_element : x.src ≡ address_of r.node element
  pub with_next_law : x.seq ≡ next_seq r element
  pub key_stays : x.key ≡ h.key

pub stamps : (r : Receiver) (element : ℕ) (h : Header) → Stamps r element h (stamped r element h)
unfolding stamped
stamps r element h = record { from_element = refl; with_next_law = refl; key_stays = refl }

-- ---- an element's address
module _ (node : Node) (made : WellMade node) where
  module _ (element : ℕ) (there : element < min node.elements element_places) where
    address_is : address_of node element ≡ node.first + element
    unfolding address_of
    address_is = let l = made.last_most in omega arith

    pub address_local : is_local node (address_of node element) ≡ true
    address_local = let a = address_is in local_within node (address_of node element) (omega arith) (omega arith)

    pub element_back : element_at node (address_of node element) ≡ element
    element_back = let a = address_is in omega arith

  pub element_low : (a : ℕ) → is_local node a ≡ true → element_at node a < element_places
  element_low a t = let b = (local_bounds node a t).1 in let f = (local_bounds node a t).0 in omega arith

  pub address_back : (a : ℕ) → is_local node a ≡ true → address_of node (element_at node a) ≡ a
  unfolding address_of
  address_back a t =
      let b = (local_bounds node a t).1 in
      let f = (local_bounds node a t).0 in
      let l = made.last_most in
      omega arith

  -- ---- the IV Index
  pub sending_near : (sending_iv node ≡ node.iv) ⊎ (sending_iv node + 1 ≡ node.iv)
  unfolding sending_iv
  sending_near = sent_near node.iv node.flag (λ t. made.index_least t)

-- ---- what setup fixed tells which element has which address
module _ (a b : Node) (same : SameFixed a b) where
  pub address_fixed : (element : ℕ) → address_of a element ≡ address_of b element
  unfolding address_of
  address_fixed element = ap (λ (x : Node). address_of x element) same

  pub local_fixed : (address : ℕ) → is_local a address ≡ is_local b address
  unfolding is_local
  local_fixed address = ap (λ (x : Node). is_local x address) same

  pub element_fixed : (address : ℕ) → element_at a address ≡ element_at b address
  element_fixed address = ap (λ (x : Node). element_at x address) same
