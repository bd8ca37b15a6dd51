-- The addresses a node answers to, from the code's tests: elements stand behind the first one's address, and past 8 there are none.
-- Assumes nothing.
--   local_low, local_near, local_far     whether an address is local, by its place behind the first
--   local_within, local_bounds           it is where it lies among the elements', and nowhere else
--   answers_..                           whether the node answers to it
--   for_..                               whether a PDU is for this node
use mathlib.Core.Bool.{Bool, true, false, ◌&&◌}
use mathlib.Core.Path.{◌≡◌, refl}
use Prim.Native.Nat.{ℕ, ◌+◌, ◌-◌, ◌≤◌, ◌<◌, min}
use native.Mathlib.Omega.{arith}
use borrow.Author.Tests.{lt-ltb, le-ltb, le-leb, lt-leb, ltb-true, ltb-false, leb-true, ne_eqb}
use lib.Dec.{eqb, leb, ltb}
use Rattle.common.proofs.Tests.{by_test, and_first, and_second}
use Rattle.network.specs.Address.{is_reserved}
use Rattle.node.specs.declared.addresses.Node.{Node}
use Rattle.node.specs.Addresses.{element_places, is_local, listens, holds_label, answers_to, for_node}

module _ (node : Node) (a : ℕ) where
  -- the address is below the first element's
  pub local_low : a < node.first → false ≡ is_local node a
  unfolding is_local
  local_low h = simp (lt-leb node.first a h)

  module _ (h : node.first ≤ a) where
    -- at a place below 8 there is an element or there is none
    pub local_near : a - node.first < element_places → ltb (a - node.first) node.elements ≡ is_local node a
    unfolding is_local
    local_near p =
        let end = node.first + min node.elements element_places in
        by_test (ltb (a - node.first) node.elements)
        (λ t. simp (t, le-leb node.first a h, lt-ltb a end (omega (arith, ltb-true (a - node.first) node.elements t))))
        (λ t. simp (t, le-leb node.first a h, le-ltb a end (omega (arith, ltb-false (a - node.first) node.elements t))))

    -- past 8 places there is none
    pub local_far : element_places ≤ a - node.first → false ≡ is_local node a
    unfolding is_local
    local_far p = simp (le-leb node.first a h, le-ltb a (node.first + min node.elements element_places) (omega arith))

  -- it is local where it lies among the elements'
  pub local_within : node.first ≤ a → a < node.first + min node.elements element_places → is_local node a ≡ true
  unfolding is_local
  local_within l h = rw (le-leb node.first a l, lt-ltb a (node.first + min node.elements element_places) h) refl

  pub local_bounds : is_local node a ≡ true → (node.first ≤ a) × (a < node.first + min node.elements element_places)
  unfolding is_local
  local_bounds t =
      let end = node.first + min node.elements element_places in
      (leb-true node.first a (and_first (leb node.first a) _ t), ltb-true a end (and_second (leb node.first a) _ t))

  -- ---- whether the node answers to it
  module _ {b : Bool} (e : b ≡ is_local node a) where
    pub answers_local : b ≡ true → true ≡ answers_to node a
    unfolding answers_to
    answers_local t = simp (← e, t)

    module _ (f : b ≡ false) where
      module _ (n : a ≡ 0xFFFF → ⊥) where
        -- not 0xFFFE, or relay is off: groups and labels decide
        module _ (w : eqb a 0xFFFE && node.relay ≡ false) {l : Bool} (q : l ≡ listens node a) where
          pub answers_label : l ≡ false → {m : Bool} → m ≡ holds_label node a → m ≡ answers_to node a
          unfolding answers_to
          answers_label t p = rw (← e, f, ne_eqb a 0xFFFF n, w, ← q, t) p

  -- the tests of 0xFFFE and relay
  pub no_relays : (a ≡ 0xFFFE → ⊥) → eqb a 0xFFFE && node.relay ≡ false
  no_relays h = rw (ne_eqb a 0xFFFE h)

  -- ---- whether a PDU is for this node
  module _ {s : Bool} (e : s ≡ is_reserved a) where
    pub for_reserved : s ≡ true → false ≡ for_node node a
    unfolding for_node
    for_reserved t = simp (← e, t)

    pub for_answered : s ≡ false → {b : Bool} → b ≡ answers_to node a → b ≡ for_node node a
    unfolding for_node
    for_answered f q = rw (← e, f) q
