-- Where the octets of a segment stand in a session.
-- Assumes nothing.
use mathlib.Core.Bool.{Bool}
use mathlib.Core.List.{List, ◌++◌}
use mathlib.Core.Path.{◌≡◌, sym, ap, ◌∙◌}
use Prim.Native.Nat.{ℕ, ◌+◌, ◌-◌, ◌≤◌, min}
use native.Mathlib.Nat.{le_of_lt}
use native.Mathlib.Omega.{arith}
use borrow.Author.Tests.{eq-eqb, ne_eqb, ltb-true, ltb-false}
use lib.Dec.{ltb}
use lib.ListN.{length, take, drop, take-append-drop, length-take, length-drop, drop_of_length-le}
use lib.Seq.{take-append_seam, drop-append-le}
use Rattle.common.specs.Lists.{onto}
use Rattle.common.proofs.Onto.{laid_copied}
use Rattle.common.proofs.Tests.{by_test}
use Rattle.network.specs.declared.header.Header.{Header}
use Rattle.network.specs.Header.{transport_of}
use Rattle.transport.specs.Segment.{message_octets}
use Rattle.memory.specs.declared.session.Session.{Session}
use Rattle.memory.specs.Session.{octet_place, segment_octets, length_with}

-- ---- where the octets of a segment begin
module _ (ctl : Bool) (seg_o : ℕ) where
  -- a segment's 12 octets still fit behind it
  pub place_most : octet_place ctl seg_o ≤ 372
  unfolding octet_place
  place_most = by_test ctl (λ t. rw t (omega arith)) (λ t. rw t (omega arith))

-- ---- the octets of a segment, in a transport PDU of `len` octets
module _ (t : List ℕ) (len : ℕ) where
  pub octets_length : length t ≡ 16 → length (drop 4 (take len t)) ≡ min len 16 - 4
  octets_length e = rw (length-drop, length-take, e)

  -- they are what stands from 4 on, up to their end
  octets_part : take (length (drop 4 (take len t))) (drop 4 t) ≡ drop 4 (take len t)
  octets_part =
      let f = take len t in
      by_test (ltb (length f) 4)
      (λ u. rw (drop_of_length-le f (le_of_lt (ltb-true (length f) 4 u))))
      (λ u.
      let e : drop 4 t ≡ drop 4 f ++ drop len t = ap (drop 4) (sym (take-append-drop len t)) ∙ drop-append-le 4 f (drop len t) (ltb-false (length f) 4 u) in
      ap (take (length (drop 4 f))) e ∙ take-append_seam (drop 4 f) (drop len t))

  -- copied onto what lies from `at` on, where there is room for them
  pub octets_put :
      (b : List ℕ) (at : ℕ) {n : ℕ} {y : List ℕ} → length b ≡ message_octets → at ≤ 372 → n ≡ 4 + length (drop 4 (take len t)) → n ≤ 16
      → y ≡ onto (take (length (take (message_octets - at) (drop at b))) (take (n - 4) (drop 4 t))) (take (message_octets - at) (drop at b))
      → take at b ++ (y ++ drop (message_octets - at) (drop at b)) ≡ take at b ++ onto (drop 4 (take len t)) (drop at b)
  octets_put b at {n} {y} eb ha en hn ey =
      let o = drop 4 (take len t) in
      let k : n - 4 ≡ length o = omega arith in
      let part : take (n - 4) (drop 4 t) ≡ o = ap (λ (m : ℕ). take m (drop 4 t)) k ∙ octets_part in
      laid_copied o b at (omega arith) (message_octets - at) y (omega arith) (rw part at ey)

-- ---- the message's length
module _ (s : Session) (h : Header) (seg_o : ℕ) where
  -- its last segment tells it
  pub length_last : seg_o ≡ s.terms.segn → length_with s h seg_o ≡ octet_place s.terms.ctl seg_o + length (segment_octets h)
  unfolding length_with
  length_last e = rw (eq-eqb seg_o s.terms.segn e)

  pub length_told :
      {at end : ℕ} → seg_o ≡ s.terms.segn → at ≡ octet_place s.terms.ctl seg_o → end ≡ 4 + length (drop 4 (transport_of h))
      → at + (end - 4) ≡ length_with s h seg_o
  unfolding segment_octets
  length_told {at} {end} e ea ee = rw (length_last e) (omega (arith, ea, ee))

  pub length_kept : (seg_o ≡ s.terms.segn → ⊥) → s.len ≡ length_with s h seg_o
  unfolding length_with
  length_kept e = rw (ne_eqb seg_o s.terms.segn e)
