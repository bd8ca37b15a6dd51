-- A stored segment is read back at its place, and the octets before and behind it stay: it fits, since a segment has 12 octets at most. The rest of the session
-- is read off the definitions. Assumes nothing.
--   begun_is, stored_is, octets_are, place_is                  a session's parts, as the definitions tell them
--   length_stored, stored_read, stored_before, stored_behind   its octets
use mathlib.Core.Bool.{Bool}
use mathlib.Core.Path.{◌≡◌, refl, ap, ◌∙◌}
use Prim.Native.Nat.{ℕ, ◌+◌, ◌*◌, ◌%◌, ◌≤◌, ◌<◌}
use native.Mathlib.Nat.{mul_comm}
use native.Mathlib.Omega.{arith}
use lib.ListN.{length, get_or, take, drop, replicate}
use Rattle.common.specs.Bits.{with_bit}
use Rattle.common.proofs.Onto.{length_laid, laid_read, laid_before, laid_behind}
use Rattle.network.specs.declared.header.Header.{Header}
use Rattle.network.specs.Header.{transport_of}
use Rattle.transport.specs.Segment.{message_octets, full_octets}
use Rattle.memory.specs.declared.session.Segment.{Segment}
use Rattle.memory.specs.declared.session.Session.{Session}
use Rattle.memory.specs.Session.{begun, octet_place, segment_octets, length_with, stored}
use Rattle.memory.proofs.SessionLaws.{place_most, octets_length}

-- ---- the parts
pub begun_is : (src : ℕ) (seg : Segment) → begun src seg ≡ record { src = src; auth = seg.auth; terms = seg.terms; filled = 0; len = 0; bytes = replicate message_octets 0 }
unfolding begun
begun_is src seg = refl

pub octets_are : (h : Header) → segment_octets h ≡ drop 4 (transport_of h)
unfolding segment_octets
octets_are h = refl

-- the segments before it are full
pub place_is : (ctl : Bool) (seg_o : ℕ) → seg_o < 32 → octet_place ctl seg_o ≡ full_octets ctl * seg_o
unfolding octet_place
place_is ctl seg_o low = let e : seg_o % 32 ≡ seg_o = omega arith in ap (λ (n : ℕ). n * full_octets ctl) e ∙ mul_comm seg_o (full_octets ctl)

module _ (s : Session) (h : Header) (seg_o : ℕ) where
  pub stored_is :
      stored s h seg_o
      ≡ record { src = s.src; auth = s.auth; terms = s.terms; filled = with_bit s.filled seg_o; len = length_with s h seg_o; bytes = (stored s h seg_o).bytes }
  unfolding stored
  stored_is = refl

-- ---- the octets
-- a segment has 12 octets at most
pub octets_most : (h : Header) → length h.transport ≡ 16 → length (segment_octets h) ≤ 12
unfolding segment_octets
octets_most h e = omega (arith, octets_length h.transport h.len e)

module _ (s : Session) (h : Header) (seg_o : ℕ) (long : length s.bytes ≡ message_octets) (sixteen : length h.transport ≡ 16) where
  fits : octet_place s.terms.ctl seg_o + length (segment_octets h) ≤ length s.bytes
  fits = omega (arith, place_most s.terms.ctl seg_o, octets_most h sixteen)

  pub length_stored : length (stored s h seg_o).bytes ≡ message_octets
  unfolding stored
  length_stored = length_laid (segment_octets h) s.bytes (octet_place s.terms.ctl seg_o) fits ∙ long

  pub stored_read : take (length (segment_octets h)) (drop (octet_place s.terms.ctl seg_o) (stored s h seg_o).bytes) ≡ segment_octets h
  unfolding stored
  stored_read = laid_read (segment_octets h) s.bytes (octet_place s.terms.ctl seg_o) fits

  pub stored_before : (j : ℕ) → j < octet_place s.terms.ctl seg_o → get_or (stored s h seg_o).bytes j 0 ≡ get_or s.bytes j 0
  unfolding stored
  stored_before = laid_before (segment_octets h) s.bytes (octet_place s.terms.ctl seg_o) fits

  pub stored_behind :
      (j : ℕ) → octet_place s.terms.ctl seg_o + length (segment_octets h) ≤ j → get_or (stored s h seg_o).bytes j 0 ≡ get_or s.bytes j 0
  unfolding stored
  stored_behind = laid_behind (segment_octets h) s.bytes (octet_place s.terms.ctl seg_o) fits
