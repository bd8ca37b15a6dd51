-- `MakesWell` and `LocalIsUnicast`: what `valid` tests is what the table allows, each place of the node's arrays is what its setup's place gives, and an element's
-- address lies between the first one's and 0x7FFF. Assumes nothing.
use mathlib.Core.Bool.{Bool, true, ◌&&◌, not}
use mathlib.Core.List.{[]}
use mathlib.Core.Path.{◌≡◌}
use Rattle.std.specs.Prelude.{Some, None}
use Prim.Native.Nat.{ℕ, ◌+◌, ◌≤◌, ◌<◌}
use native.Mathlib.Omega.{arith}
use borrow.Author.Tests.{lt-ltb, leb-true, ltb-true, eqb-false, not-true}
use lib.Dec.{leb, ltb, eqb}
use lib.ListN.{get_or}
use Rattle.common.proofs.Lists.{length_tab, get_d_tab}
use Rattle.common.proofs.Tests.{by_test, and_first, and_second}
use Rattle.keys.specs.Derivation.{k2, k4, label_address}
use Rattle.network.proofs.AddressLaws.{unicast_range}
use Rattle.network.specs.Candidates.{network_key_places}
use Rattle.transport.specs.Securing.{application_key_places, label_places}
use Rattle.node.specs.declared.setup.BoundKey.{BoundKey}
use Rattle.node.specs.declared.setup.Made.{Made}
use Rattle.node.specs.declared.setup.Setup.{Setup}
use Rattle.node.specs.Setup.{every, bound_within, keys_valid, next_within, elements_valid, is_group, groups_valid, index_valid, valid}
use Rattle.node.specs.Setup.{network_key_at, material_at, bound_key_at, next_at, group_at, label_uuid_at, node_of, next_of, making}
use Rattle.node.specs.Made.{WellMade, NextWell, MakesWell, LocalIsUnicast}
use Rattle.node.proofs.AddressesLaws.{local_bounds}
use Rattle.node.proofs.EveryLaws.{every_each}
use Rattle.node.specs.Addresses.{group_places, element_places}

-- two tests that hold together
both : (p q : Bool) → p && q ≡ true → (p ≡ true) × (q ≡ true)
both p q e = (and_first p q e, and_second p q e)

module _ (s : Setup) where
  -- ---- what each part of `valid` allows
  keys_allowed : keys_valid s ≡ true → (1 ≤ s.networks) × (s.networks ≤ network_key_places) × (s.applications ≤ application_key_places) × (bound_within s ≡ true)
  unfolding keys_valid
  keys_allowed v =
      let a = both (leb 1 s.networks) _ v in
      let b = both (leb s.networks network_key_places) _ a.1 in
      let c = both (leb s.applications application_key_places) _ b.1 in
      (leb-true 1 s.networks a.0, leb-true s.networks network_key_places b.0, leb-true s.applications application_key_places c.0, c.1)

  elements_allowed :
      elements_valid s ≡ true → (1 ≤ s.elements) × (s.elements ≤ element_places) × (1 ≤ s.first) × (s.first + s.elements ≤ 0x8000) × (next_within s ≡ true)
  unfolding elements_valid
  elements_allowed v =
      let a = both (leb 1 s.elements) _ v in
      let b = both (leb s.elements element_places) _ a.1 in
      let c = both (leb 1 s.first) _ b.1 in
      let d = both (leb (s.first + s.elements) 0x8000) _ c.1 in (
        leb-true 1 s.elements a.0,
        leb-true s.elements element_places b.0,
        leb-true 1 s.first c.0,
        leb-true (s.first + s.elements) 0x8000 d.0,
        d.1,
      )

  groups_allowed : groups_valid s ≡ true → (s.listened ≤ group_places) × (every is_group s.listened s.groups ≡ true)
  unfolding groups_valid
  groups_allowed v = let a = both (leb s.listened group_places) _ v in (leb-true s.listened group_places a.0, a.1)

  index_allowed : index_valid s ≡ true → s.flag ≡ true → 1 ≤ s.iv
  unfolding index_valid
  index_allowed v f =
      let n : not (eqb s.iv 0) ≡ true = rw f at v in
      omega (arith, eqb-false s.iv 0 (not-true (eqb s.iv 0) n))

  -- ---- what stands at a place that is used
  keys_used : (i : ℕ) → i < s.networks → material_at s i ≡ k2 (network_key_at s i).octets
  unfolding material_at network_key_at
  keys_used i h = simp (lt-ltb i s.networks h)

  aid_used : (i : ℕ) → i < s.applications → (bound_key_at s i).aid ≡ k4 (bound_key_at s i).key
  unfolding bound_key_at
  aid_used i h = simp (lt-ltb i s.applications h)

  label_used : (i : ℕ) → i < s.labelled → (label_uuid_at s i).address ≡ label_address (label_uuid_at s i).octets
  unfolding label_uuid_at
  label_used i h = simp (lt-ltb i s.labelled h)

  bound_used : bound_within s ≡ true → (i : ℕ) → i < s.applications → (bound_key_at s i).bound < s.networks
  unfolding bound_within bound_key_at
  bound_used v i h =
      let d : BoundKey = record { key = []; network = 0 } in
      let b = every_each (λ (b : BoundKey). ltb b.network s.networks) s.applications s.appkeys v i d h in
      rw (lt-ltb i s.applications h) (ltb-true (get_or s.appkeys i d).network s.networks b)

  next_used : next_within s ≡ true → (i : ℕ) → i < s.elements → next_at s i ≤ 0x1000000
  unfolding next_within next_at
  next_used v i h =
      rw (lt-ltb i s.elements h)
      (leb-true (get_or s.next i 0) 0x1000000 (every_each (λ q. leb q 0x1000000) s.elements s.next v i 0 h))

  group_used : every is_group s.listened s.groups ≡ true → (i : ℕ) → i < s.listened → is_group (group_at s i) ≡ true
  unfolding group_at
  group_used v i h = rw (lt-ltb i s.listened h) (every_each is_group s.listened s.groups v i 0 h)

  -- ---- the node and its next SEQs
  module _ (v : valid s ≡ true) where
    parts : (keys_valid s ≡ true) × (elements_valid s ≡ true) × (groups_valid s ≡ true) × (s.labelled ≤ label_places) × (index_valid s ≡ true)
    unfolding valid
    parts =
        let a = both (keys_valid s) _ v in
        let b = both (elements_valid s) _ a.1 in
        let c = both (groups_valid s) _ b.1 in
        let d = both (leb s.labelled label_places) _ c.1 in
        (a.0, b.0, c.0, leb-true s.labelled label_places d.0, d.1)

    pub node_well_made : WellMade (node_of s)
    unfolding node_of
    node_well_made =
        let (n1, n4, a4, b) = keys_allowed parts.0 in
        let (e1, e8, f1, f8, _) = elements_allowed parts.1 in
        let (l8, g) = groups_allowed parts.2 in
        record {
          networks_least = n1;
          networks_most = n4;
          applications_most = a4;
          elements_least = e1;
          elements_most = e8;
          listened_most = l8;
          labels_most = parts.3;
          netkeys_places = length_tab (network_key_at s) network_key_places;
          materials_places = length_tab (material_at s) network_key_places;
          appkeys_places = length_tab (bound_key_at s) application_key_places;
          groups_places = length_tab (group_at s) group_places;
          labels_places = length_tab (label_uuid_at s) label_places;
          derived =
              λ i h.
              rw (get_d_tab (material_at s) network_key_places i _ (omega (arith, h, n4)), get_d_tab (network_key_at s) network_key_places i _ (omega (arith, h, n4))) (keys_used i h);
          aid_derived = λ i h. rw (get_d_tab (bound_key_at s) application_key_places i _ (omega (arith, h, a4))) (aid_used i h);
          label_derived = λ i h. rw (get_d_tab (label_uuid_at s) label_places i _ (omega (arith, h, parts.3))) (label_used i h);
          bound = λ i h. rw (get_d_tab (bound_key_at s) application_key_places i _ (omega (arith, h, a4))) (bound_used b i h);
          first_least = f1;
          last_most = omega (arith, f8);
          groups_only = λ i h. rw (get_d_tab (group_at s) group_places i 0 (omega (arith, h, l8))) (group_used g i h);
          index_least = index_allowed parts.4;
        }

    pub next_well : NextWell (node_of s).elements (next_of s)
    unfolding node_of next_of
    next_well =
        let (_, e8, _, _, q) = elements_allowed parts.1 in
        record {
          places = length_tab (next_at s) element_places;
          most = λ i h. rw (get_d_tab (next_at s) element_places i 0 (omega (arith, h, e8))) (next_used q i h);
        }

-- ---- what setup makes
module _ (s : Setup) (m : Made) (e : making s ≡ Some m) where
  pub made_valid : valid s ≡ true
  unfolding making
  made_valid = by_test (valid s) (λ t. t) (λ t. let none : None ≡ Some m = rw t at e in cc)

  pub made_is : m ≡ record { node = node_of s; next = next_of s }
  unfolding making
  made_is = let some : Some (record { node = node_of s; next = next_of s }) ≡ Some m = rw made_valid at e in cc

pub makes_well : MakesWell
makes_well s m e = let v = made_valid s m e in rw (made_is s m e) (node_well_made s v, next_well s v)

-- it was given group addresses
pub groups_given : (s : Setup) (m : Made) → making s ≡ Some m → (i : ℕ) → i < s.listened → is_group (get_or s.groups i 0) ≡ true
groups_given s m e i h = every_each is_group s.listened s.groups (groups_allowed s (parts s (made_valid s m e)).2).1 i 0 h

pub local_is_unicast : LocalIsUnicast
local_is_unicast node w a e =
    let (l, h) = local_bounds node a e in
    unicast_range a (omega (arith, w.first_least, l)) (omega (arith, w.last_most, w.elements_most, h))
