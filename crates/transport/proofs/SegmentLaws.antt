-- The four octets in front of a segment: how many they are, and that octet 0 stands first; and SegN, which is one less than the segments. Assumes nothing.
use mathlib.Core.Bool.{Bool}
use mathlib.Core.List.{List, ◌++◌}
use mathlib.Core.Path.{◌≡◌, refl}
use Prim.Native.Nat.{ℕ, suc, ◌<◌}
use native.Mathlib.Nat.{pos_of_ne-zero}
use native.Mathlib.Omega.{arith}
use lib.ListN.{length, get_or}
use Rattle.common.specs.Chunks.{chunk_count}
use Rattle.common.proofs.Chunks.{chunk_count_zero}
use Rattle.network.proofs.OctetsLaws.{length_octets}
use Rattle.transport.specs.Segment.{last_segment, segment_number, segment_front}

module _ (first : ℕ) (szmic : Bool) (seq_zero seg_o seg_n : ℕ) where
  pub length_front : length (segment_front first szmic seq_zero seg_o seg_n) ≡ 4
  unfolding segment_front
  length_front = rw (length_octets 3 (segment_number szmic seq_zero seg_o seg_n)) refl

  pub front_first : (l : List ℕ) → get_or (segment_front first szmic seq_zero seg_o seg_n ++ l) 0 0 ≡ first
  unfolding segment_front
  front_first l = refl

pub count_last : (size len : ℕ) → 0 < size → 0 < len → chunk_count size len ≡ suc (last_segment size len)
unfolding last_segment
count_last size len h some =
    let there : 0 < chunk_count size len = pos_of_ne-zero (λ e. omega (arith, chunk_count_zero size len h e)) in
    omega arith
