-- A session gathers from its beginning on: a segment of the message marks a place up to SegN, and its octets, 12 at most, lie within the 384.
-- Assumes nothing.
use mathlib.Core.Bool.{false, true≢false}
use mathlib.Core.Path.{◌≡◌, sym, ap, subst, ◌∙◌}
use Prim.Native.Nat.{ℕ, suc, ◌+◌, ◌-◌, ◌/◌, ◌%◌, ◌^◌, ◌≤◌, ◌<◌}
use native.Mathlib.Nat.{add-div_right, div-lt_iff_lt-mul, pow-suc}
use native.Mathlib.Omega.{arith}
use borrow.Author.Tests.{eqb-false, ne_eqb, ltb-true, ltb-false}
use lib.Dec.{eqb, ltb}
use lib.ListN.{length, length-replicate}
use lib.Pow.{pow_pos, pow-add, shr_lt}
use Rattle.common.specs.Bits.{has_bit, with_bit, all_bits}
use Rattle.common.proofs.BitLaws.{has_none, has_all, with_of_set, with_of_clear, with_past}
use Rattle.common.proofs.Tests.{by_test, by_choice}
use Rattle.network.specs.declared.header.Header.{Header}
use Rattle.transport.specs.Segment.{message_octets}
use Rattle.memory.specs.declared.session.Segment.{Segment}
use Rattle.memory.specs.declared.session.Session.{Session}
use Rattle.memory.specs.Session.{begun, length_with, stored, complete}
use Rattle.memory.proofs.SessionLaws.{place_most}
use Rattle.memory.proofs.Stored.{octets_most, length_stored}
use Rattle.receiver.specs.Good.{Gathering}

-- 2 ^ i more is one more from bit i on, and where that bit is clear it carries nothing past a power of two above
sum_below : (x i k : ℕ) → i < k → x < 2 ^ k → has_bit x i ≡ false → x + 2 ^ i < 2 ^ k
unfolding has_bit
sum_below x i k b h t =
    let j = k - suc i in
    let s : suc j + i ≡ k = omega arith in
    let even = eqb-false (x / 2 ^ i % 2) 1 t in
    subst (λ (m : ℕ). x < 2 ^ m → x + 2 ^ i < 2 ^ m) s
    (λ h.
    let q = shr_lt (suc j) i h in
    rw (pow-add 2 (suc j) i) ((div-lt_iff_lt-mul (pow_pos i)).0 (rw (add-div_right x (pow_pos i)) (omega (arith, pow-suc 2 j)))))
    h

-- a place below k is marked below 2 ^ k
marked_below : (x i k : ℕ) → i < k → x < 2 ^ k → with_bit x i < 2 ^ k
marked_below x i k b h =
    by_test (has_bit x i) (λ t. rw (with_of_set x i t) h)
    (λ t. by_test (ltb i 32)
    (λ u. rw (with_of_clear x i (ltb-true i 32 u) t) (sum_below x i k b h t))
    (λ u. rw (with_past x i (ltb-false i 32 u)) h))

-- a session with no segment yet
pub gathering_begun : (src : ℕ) (seg : Segment) → seg.terms.segn < 32 → Gathering (begun src seg)
unfolding begun complete
gathering_begun src seg h =
    let n = seg.terms.segn in
    record {
      last_within = h;
      filled_within = pow_pos (n + 1);
      missing =
          ne_eqb 0 (all_bits n) (λ e. true≢false (sym (has_all n 0 (omega arith) (omega arith)) ∙ ap (λ (x : ℕ). has_bit x 0) (sym e) ∙ has_none 0));
      octets_places = length-replicate {A = ℕ} message_octets 0;
      length_most = omega arith;
    }

-- a session with a segment more, if it is not complete
module _ (s : Session) (h : Header) (seg_o : ℕ) (g : Gathering s) (sixteen : length h.transport ≡ 16) where
  told_most : length_with s h seg_o ≤ message_octets
  unfolding length_with
  told_most =
      by_choice (λ (n : ℕ). n ≤ message_octets) (eqb seg_o s.terms.segn)
      (λ t. omega (arith, place_most s.terms.ctl seg_o, octets_most h sixteen))
      (λ t. g.length_most)

  pub gathering_stored : seg_o ≤ s.terms.segn → complete (stored s h seg_o) ≡ false → Gathering (stored s h seg_o)
  unfolding stored
  gathering_stored b m =
      record {
        last_within = g.last_within;
        filled_within = marked_below s.filled seg_o (s.terms.segn + 1) (omega arith) g.filled_within;
        missing = m;
        octets_places = length_stored s h seg_o g.octets_places sixteen;
        length_most = told_most;
      }
