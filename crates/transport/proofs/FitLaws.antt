-- What it means that a PDU fits: each test of the definition as a fact, and back. Of CTL five facts count, and no other law about vetting asks what it is. Assumes nothing.
--   size_some to most_low     these facts
--   Filled, fills_..          how many octets a segment has
--   Fitting, fits_..          a PDU that fits
--   Fit, fit_take, take_fit   each PDU of a list fits what PDU 0 states; the first PDUs of it
use mathlib.Core.Bool.{Bool, true, false}
use mathlib.Core.List.{List, []}
use mathlib.Core.Path.{◌≡◌, refl}
use Prim.Native.Nat.{ℕ, ◌+◌, ◌*◌, ◌≤◌, ◌<◌}
use native.Mathlib.Omega.{arith}
use borrow.Author.Tests.{ltb-true, ltb-false, leb-true, eqb-true, lt-ltb, le-ltb, le-leb, eq-eqb}
use lib.Dec.{leb, ltb}
use lib.ListN.{length, get_or, take, drop, length-take}
use lib.Seq.{get_or-take}
use Rattle.common.specs.Lists.{same}
use Rattle.common.proofs.Same.{same_refl, same_eq}
use Rattle.common.proofs.Tests.{by_test, and_first, and_second}
use Rattle.transport.specs.declared.vetting.Stated.{Stated}
use Rattle.transport.specs.Segment.{message_octets, full_octets, segment_front}
use Rattle.transport.specs.Vetting.{octet_allowed, bit_allowed, least, most, stated_by, fills, fits}

-- ---- what counts of CTL
pub size_some : (ctl : Bool) → 0 < full_octets ctl
size_some true = omega arith
size_some false = omega arith

pub least_some : (ctl z : Bool) → 1 ≤ least ctl z
unfolding least
least_some true z = omega arith
least_some false true = omega arith
least_some false false = omega arith

pub least_size : (ctl z : Bool) → least ctl z ≤ full_octets ctl
unfolding least
least_size true z = omega arith
least_size false true = omega arith
least_size false false = omega arith

pub most_is : (ctl : Bool) → most ctl ≡ full_octets ctl * 32
unfolding most
most_is true = refl
most_is false = refl

pub most_low : (ctl : Bool) → most ctl ≤ message_octets
unfolding most
most_low true = omega arith
most_low false = omega arith

-- ---- how many octets a segment has
module _ (size few k n octets : ℕ) where
  pub record Filled : Type 0 where
    pub before_last : k < n → octets ≡ size
    pub last_one : n ≤ k → (1 ≤ octets) × (octets ≤ size) × (few ≤ size * n + octets)

  pub fills_parts : fills size few k n octets ≡ true → Filled
  unfolding fills
  fills_parts e =
      record {
        before_last = λ h. eqb-true octets size (rw (lt-ltb k n h) at e);
        last_one = λ h.
            let t = rw (le-ltb k n h) at e in
            let s = and_second (leb 1 octets) _ t in
            (leb-true 1 octets (and_first (leb 1 octets) _ t), leb-true octets size (and_first (leb octets size) _ s), leb-true few (size * n + octets) (and_second (leb octets size) _ s));
      }

  pub fills_from : Filled → fills size few k n octets ≡ true
  unfolding fills
  fills_from f =
      by_test (ltb k n)
      (λ t. rw t (eq-eqb octets size (f.before_last (ltb-true k n t))))
      (λ t.
      let l = f.last_one (ltb-false k n t) in
      rw (t, le-leb 1 octets l.0, le-leb octets size l.1, le-leb few (size * n + octets) l.2) refl)

-- ---- a PDU that fits
pub record Fitting (ctl : Bool) (s : Stated) (k : ℕ) (p : List ℕ) : Type 0 where
  pub octet : octet_allowed ctl s.first ≡ true
  pub bit : bit_allowed ctl s.szmic ≡ true
  pub low : k ≤ s.segn
  pub front : take 4 p ≡ segment_front s.first s.szmic s.seqzero k s.segn
  pub filled : fills (full_octets ctl) (least ctl s.szmic) k s.segn (length (drop 4 p)) ≡ true

module _ (ctl : Bool) (s : Stated) (k : ℕ) (p : List ℕ) where
  pub fits_parts : fits ctl s k p ≡ true → Fitting ctl s k p
  unfolding fits
  fits_parts e =
      let f = segment_front s.first s.szmic s.seqzero k s.segn in
      let e1 = and_second (octet_allowed ctl s.first) _ e in
      let e2 = and_second (bit_allowed ctl s.szmic) _ e1 in
      let e3 = and_second (leb k s.segn) _ e2 in
      record {
        octet = and_first (octet_allowed ctl s.first) _ e;
        bit = and_first (bit_allowed ctl s.szmic) _ e1;
        low = leb-true k s.segn (and_first (leb k s.segn) _ e2);
        front = same_eq (take 4 p) f (and_first (same (take 4 p) f) _ e3);
        filled = and_second (same (take 4 p) f) _ e3;
      }

  pub fits_from : Fitting ctl s k p → fits ctl s k p ≡ true
  unfolding fits
  fits_from f =
      rw (f.octet, f.bit, le-leb k s.segn f.low, f.front, same_refl (segment_front s.first s.szmic s.seqzero k s.segn), f.filled) refl

-- each PDU of l fits what PDU 0 states
abbrev pub Fit : Bool → List (List ℕ) → Type 0
Fit ctl l = (i : ℕ) → i < length l → fits ctl (stated_by (get_or l 0 [])) i (get_or l i []) ≡ true

-- ---- the first PDUs of l
module _ (ctl : Bool) (l : List (List ℕ)) (k : ℕ) where
  pub fit_take : ((i : ℕ) → i < k → i < length l → fits ctl (stated_by (get_or l 0 [])) i (get_or l i []) ≡ true) → Fit ctl (take k l)
  fit_take f i h =
      let e = length-take k l in
      let ik : i < k = omega arith in
      let il : i < length l = omega arith in
      rw (get_or-take k l i [] ik, get_or-take k l 0 [] (omega arith)) (f i ik il)

  pub take_fit : Fit ctl (take k l) → (i : ℕ) → i < k → i < length l → fits ctl (stated_by (get_or l 0 [])) i (get_or l i []) ≡ true
  take_fit f i ik il =
      let e = length-take k l in
      rw (get_or-take k l i [] ik, get_or-take k l 0 [] (omega arith)) at (f i (omega arith))
