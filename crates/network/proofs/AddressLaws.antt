-- An address has its kind by its range (`KindExactly`): the tests before say that it is no other's. SRC and DST are allowed where each is. Assumes nothing.
--   ranged, kind_in                where an address of a kind lies, and which kind has it
--   kind_exactly                   `KindExactly`
--   unicast_..                     0x0001-0x7FFF are unicast, and no others
--   reserved_some, _not_unicast    a reserved address is not 0 and not unicast
--   not_reserved                   one of another kind is not reserved
--   addresses_allowed_law          a unicast SRC and a DST that may be sent to are allowed
--   allowed_source, allowed_some   where they are allowed, SRC is unicast and DST is not 0
use mathlib.Core.Bool.{Bool, true, false, false≢true}
use mathlib.Core.Logic.{inl, inr}
use mathlib.Core.Path.{◌≡◌, refl, sym, ap, ◌∙◌, subst}
use Prim.Native.Nat.{ℕ, ◌≤◌}
use native.Mathlib.Omega.{arith}
use borrow.Author.Tests.{le-leb, lt-leb, leb-true, leb-false, eqb-true, eqb-false, ne_eqb}
use lib.Dec.{eqb, leb}
use Rattle.common.proofs.Tests.{by_test, by_choice, and_first, and_second}
use Rattle.network.specs.declared.address.AddressKind.{AddressKind}
use Rattle.network.specs.declared.address.AddressKind.TheVariants.{Unassigned, Unicast, Virtual, Group, Reserved}
use Rattle.network.specs.Address.{kind_of, unicast_kind, is_unicast, reserved_kind, is_reserved, destination_kind, addresses_allowed}
use Rattle.network.specs.Kinds.{Ranged, KindExactly}

-- ---- ranges
pub ranged : (a : ℕ) → Ranged (kind_of a) a
unfolding kind_of
ranged a =
    let lies : AddressKind → Type 0 = λ k. Ranged k a in
    by_choice lies (eqb a 0x0000) (λ t. eqb-true a 0x0000 t)
    (λ t. let z = eqb-false a 0x0000 t in by_choice lies (leb a 0x7FFF) (λ u. (omega arith, leb-true a 0x7FFF u))
    (λ u. let c = leb-false a 0x7FFF u in by_choice lies (leb a 0xBFFF) (λ v. (omega arith, leb-true a 0xBFFF v))
    (λ v. let d = leb-false a 0xBFFF v in by_choice lies (leb a 0xFEFF) (λ w. inl (omega arith, leb-true a 0xFEFF w))
    (λ w. let e = leb-false a 0xFEFF w in by_choice lies (leb a 0xFFFB) (λ x. (omega arith, leb-true a 0xFFFB x))
    (λ x. let f = leb-false a 0xFFFB x in inr (omega arith))))))

pub kind_in : (k : AddressKind) (a : ℕ) → Ranged k a → kind_of a ≡ k
unfolding kind_of
kind_in Unassigned a e = rw e refl
kind_in Unicast a (l, h) = rw (ne_eqb a 0 (omega arith), le-leb a 0x7FFF h) refl
kind_in Virtual a (l, h) = rw (ne_eqb a 0 (omega arith), lt-leb a 0x7FFF (omega arith), le-leb a 0xBFFF h) refl
kind_in Group a (inl (l, h)) = rw (ne_eqb a 0 (omega arith), lt-leb a 0x7FFF (omega arith), lt-leb a 0xBFFF (omega arith), le-leb a 0xFEFF h) refl
kind_in Group a (inr l) =
    rw (ne_eqb a 0 (omega arith), lt-leb a 0x7FFF (omega arith), lt-leb a 0xBFFF (omega arith), lt-leb a 0xFEFF (omega arith), lt-leb a 0xFFFB (omega arith)) refl
kind_in Reserved a (l, h) =
    rw (ne_eqb a 0 (omega arith), lt-leb a 0x7FFF (omega arith), lt-leb a 0xBFFF (omega arith), lt-leb a 0xFEFF (omega arith), le-leb a 0xFFFB h) refl

pub kind_exactly : KindExactly
kind_exactly a k = ((λ e. subst (λ (x : AddressKind). Ranged x a) e (ranged a)), kind_in k a)

-- ---- unicast
only_unicast : (k : AddressKind) → unicast_kind k ≡ true → k ≡ Unicast
only_unicast Unassigned e = absurd (false≢true e)
only_unicast Unicast e = refl
only_unicast Virtual e = absurd (false≢true e)
only_unicast Group e = absurd (false≢true e)
only_unicast Reserved e = absurd (false≢true e)

pub unicast_range : (a : ℕ) → 0x0001 ≤ a → a ≤ 0x7FFF → is_unicast a ≡ true
unfolding is_unicast
unicast_range a l h = ap unicast_kind (kind_in Unicast a (l, h))

pub unicast_kind_law : (a : ℕ) → is_unicast a ≡ true → kind_of a ≡ Unicast
unfolding is_unicast
unicast_kind_law a u = only_unicast (kind_of a) u

pub unicast_bounds : (a : ℕ) → is_unicast a ≡ true → (0x0001 ≤ a) × (a ≤ 0x7FFF)
unicast_bounds a u = (kind_exactly a Unicast).0 (unicast_kind_law a u)

pub unicast_some : (a : ℕ) → is_unicast a ≡ true → a ≡ 0 → ⊥
unicast_some a u e = let b = (unicast_bounds a u).0 in omega arith

-- ---- reserved
pub not_reserved : (a : ℕ) (k : AddressKind) → kind_of a ≡ k → reserved_kind k ≡ false → is_reserved a ≡ false
unfolding is_reserved
not_reserved a k e n = rw e n

pub reserved_some : (a : ℕ) → is_reserved a ≡ true → a ≡ 0 → ⊥
reserved_some a t e = false≢true (sym (not_reserved a Unassigned (kind_in Unassigned a e) refl) ∙ t)

pub reserved_not_unicast : (a : ℕ) → is_reserved a ≡ true → is_unicast a ≡ false
reserved_not_unicast a t =
    by_test (is_unicast a) (λ u. absurd (false≢true (sym (not_reserved a Unicast (unicast_kind_law a u) refl) ∙ t))) (λ u. u)

-- ---- SRC and DST
module _ (ctl : Bool) (src dst : ℕ) where
  pub addresses_allowed_law : is_unicast src ≡ true → destination_kind ctl (kind_of dst) ≡ true → addresses_allowed ctl src dst ≡ true
  unfolding addresses_allowed
  addresses_allowed_law u d = rw (u, d) refl

  pub allowed_source : addresses_allowed ctl src dst ≡ true → is_unicast src ≡ true
  unfolding addresses_allowed
  allowed_source a = and_first (is_unicast src) _ a

  pub allowed_some : addresses_allowed ctl src dst ≡ true → dst ≡ 0 → ⊥
  unfolding addresses_allowed kind_of
  allowed_some a e = false≢true (rw e at (and_second (is_unicast src) (destination_kind ctl (kind_of dst)) a))
