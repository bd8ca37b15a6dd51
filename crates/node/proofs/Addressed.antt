-- An address that is for a node may be sent to: it is one of its elements', or a group's (0xFFFE and 0xFFFF are of that kind), and neither is refused as a DST; or a label's,
-- which is refused of a control message alone. A unicast address is no group's and no label's, so one that is for a node is an element's; nor is it reserved, so where it is an
-- element's it is for the node. Assumes nothing.
--   for_allowed     an address that is for a node is allowed as a DST, of a control message if it is not virtual
--   group_spared    a group's address is not reserved
--   local_of        where it is unicast it is local
--   local_for       where it is local it is for the node
--   reserved_never  a reserved address is for none
use mathlib.Core.Bool.{Bool, true, false, true≢false, false≢true, not}
use mathlib.Core.Logic.{◌⊎◌, inl, inr, ⊎_elim}
use mathlib.Core.Path.{◌≡◌, refl, sym, ap, ◌∙◌, subst}
use Prim.Native.Nat.{ℕ, ◌≤◌, min}
use native.Mathlib.Omega.{arith}
use borrow.Author.Tests.{eqb-true, ltb-true}
use lib.Dec.{eqb}
use lib.ListN.{get_or}
use Rattle.common.specs.Search.{first}
use Rattle.common.proofs.Search.{first_passes}
use Rattle.common.proofs.Tests.{by_test, and_second}
use Rattle.network.specs.declared.address.AddressKind.{AddressKind}
use Rattle.network.specs.declared.address.AddressKind.TheVariants.{Unassigned, Unicast, Virtual, Group, Reserved}
use Rattle.network.specs.Address.{kind_of, is_unicast, is_reserved, destination_kind}
use Rattle.network.proofs.AddressLaws.{kind_in, unicast_kind_law, not_reserved}
use Rattle.node.specs.declared.addresses.Node.{Node}
use Rattle.keys.proofs.Widths.{label_virtual}
use Rattle.transport.specs.declared.securing.LabelUuid.{LabelUuid}
use Rattle.transport.specs.Securing.{label_places, no_label, label_at, virtual_kind, is_virtual}
use Rattle.node.specs.Addresses.{group_places, is_local, listens, holds_label, answers_to, for_node}
use Rattle.node.specs.Made.{WellMade}
use Rattle.node.specs.Setup.{group_kind, is_group}
use Rattle.node.proofs.AddressesLaws.{answers_local, for_reserved, for_answered}
use Rattle.node.proofs.SetupLaws.{local_is_unicast}

only_group : (k : AddressKind) → group_kind k ≡ true → k ≡ Group
only_group Unassigned g = absurd (false≢true g)
only_group Unicast g = absurd (false≢true g)
only_group Virtual g = absurd (false≢true g)
only_group Group g = refl
only_group Reserved g = absurd (false≢true g)

pub group_spared : (a : ℕ) → is_group a ≡ true → is_reserved a ≡ false
group_spared a g = not_reserved a Group (only_group (kind_of a) g) refl

pub local_for : (node : Node) (a : ℕ) → is_unicast a ≡ true → is_local node a ≡ true → for_node node a ≡ true
local_for node a u l = sym (for_answered node a refl (not_reserved a Unicast (unicast_kind_law a u) refl) (answers_local node a (sym l) refl))

pub reserved_never : (node : Node) (a : ℕ) → is_reserved a ≡ true → for_node node a ≡ false
reserved_never node a t = sym (for_reserved node a refl t)

module _ (node : Node) (made : WellMade node) (a : ℕ) where
  -- a group that is listened to
  listened_group : listens node a ≡ true → group_kind (kind_of a) ≡ true
  unfolding listens
  listened_group l =
      let j = first (λ g. eqb g a) node.groups in
      let h = ltb-true j (min node.listened group_places) l in
      let places = made.groups_places in
      let e = eqb-true (get_or node.groups j 0) a (first_passes (λ g. eqb g a) node.groups 0 (omega arith)) in
      subst (λ (x : ℕ). is_group x ≡ true) e (made.groups_only j (omega arith))

  fixed_group : (n : ℕ) → 0xFFFC ≤ n → eqb a n ≡ true → group_kind (kind_of a) ≡ true
  fixed_group n h e = ap (λ (x : ℕ). group_kind (kind_of x)) (eqb-true a n e) ∙ ap group_kind (kind_in Group n (inr h))

  -- a label that is held
  held_virtual : holds_label node a ≡ true → kind_of a ≡ Virtual
  unfolding holds_label
  held_virtual l =
      let has : LabelUuid → Bool = λ x. eqb x.address a in
      let j = first has node.labels in
      let h = ltb-true j (min node.labelled label_places) l in
      let places = made.labels_places in
      let e = eqb-true (label_at node.labels j).address a (first_passes has node.labels no_label (omega arith)) in
      let v = label_virtual (label_at node.labels j).octets in
      kind_in Virtual a (rw (sym e ∙ made.label_derived j (omega arith)) v)

  -- an address that is for a node is a local one, a group's or a label's
  for_kind : for_node node a ≡ true → (is_local node a ≡ true) ⊎ ((group_kind (kind_of a) ≡ true) ⊎ (kind_of a ≡ Virtual))
  unfolding for_node answers_to
  for_kind f =
      by_test (is_local node a) (λ t. inl t)
      (λ t. inr
      (by_test (eqb a 0xFFFF) (λ u. inl (fixed_group 0xFFFF (omega arith) u))
      (λ u. by_test (eqb a 0xFFFE) (λ v. inl (fixed_group 0xFFFE (omega arith) v))
      (λ v. by_test (listens node a) (λ w. inl (listened_group w))
      (λ w. inr (held_virtual (rw (t, u, v, w) at (and_second (not (is_reserved a)) _ f))))))))

  virtual_allowed : (ctl : Bool) → (ctl ≡ true → is_virtual a ≡ false) → kind_of a ≡ Virtual → destination_kind ctl (kind_of a) ≡ true
  unfolding is_virtual
  virtual_allowed true n v = absurd (true≢false (sym (ap virtual_kind v) ∙ n refl))
  virtual_allowed false n v = ap (destination_kind false) v

  pub for_allowed : (ctl : Bool) → (ctl ≡ true → is_virtual a ≡ false) → for_node node a ≡ true → destination_kind ctl (kind_of a) ≡ true
  for_allowed ctl n f =
      ⊎_elim
      (λ l. ap (destination_kind ctl) (unicast_kind_law a (local_is_unicast node made a l)))
      (λ g. ⊎_elim (λ h. ap (destination_kind ctl) (only_group (kind_of a) h)) (virtual_allowed ctl n) g)
      (for_kind f)

  pub local_of : is_unicast a ≡ true → for_node node a ≡ true → is_local node a ≡ true
  local_of u f =
      ⊎_elim (λ l. l)
      (λ g. ⊎_elim
      (λ h. absurd (false≢true (sym (ap group_kind (unicast_kind_law a u)) ∙ h)))
      (λ v. absurd (false≢true (sym (ap virtual_kind (unicast_kind_law a u)) ∙ ap virtual_kind v))) g)
      (for_kind f)
