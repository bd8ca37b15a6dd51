-- Additional data, chained: the blocks of a list are its first sixteen octets and the blocks of the rest, so behind the two octets of length the first block has
-- fourteen octets of data. Key laws: `blocks_first`; `data_none`, `data_short`, `data_rest`.
-- Assumes nothing.
use mathlib.Core.Path.{◌≡◌, refl, sym, ap, ◌∙◌}
use mathlib.Core.List.{List, [], ◌∷◌}
use Prim.Native.Nat.{ℕ, zero, suc, ◌+◌, ◌-◌, ◌*◌, ◌≤◌, ◌<◌}
use native.Mathlib.Omega.{arith}
use borrow.Author.Tests.{eq-eqb, ne_eqb}
use lib.ListN.{length, get_or, take, drop, length-drop}
use lib.Seq.{get_or-drop, take_all}
use Rattle.common.specs.Lists.{padded, xored}
use Rattle.common.specs.Chunks.{chunk, chunk_count}
use Rattle.common.proofs.Lists.{length_tab, get_d_tab, tab_is, tab_ext}
use Rattle.aes.specs.Cipher.{cipher}
use Rattle.modes.specs.Chain.{block_of, blocks, chain}
use Rattle.modes.specs.Ccm.{data_octets, data_blocks}
use Rattle.modes.proofs.Blocks.{get_d_chunk}

-- ---- the first block and the others
block_first : (m : List ℕ) → padded 16 m ≡ block_of m 0
block_first m =
    tab_ext (λ k. get_or m k 0) (λ k. get_or (chunk 16 m 0) k 0) 16
    (λ k h. let e : k ≡ 16 * 0 + k = omega arith in ap (λ (j : ℕ). get_or m j 0) e ∙ sym (get_d_chunk m 0 k h))

-- block i + 1 of a list is block i of what lies behind its first sixteen octets
block_next : (m : List ℕ) (i : ℕ) → block_of (drop 16 m) i ≡ block_of m (suc i)
block_next m i =
    tab_ext (λ k. get_or (chunk 16 (drop 16 m) i) k 0) (λ k. get_or (chunk 16 m (suc i)) k 0) 16
    (λ k h. let e : 16 + (16 * i + k) ≡ 16 * suc i + k = omega arith in
    get_d_chunk (drop 16 m) i k h ∙ get_or-drop 16 m (16 * i + k) 0 ∙ ap (λ (j : ℕ). get_or m j 0) e ∙ sym (get_d_chunk m (suc i) k h))

pub blocks_first : (m : List ℕ) → 0 < length m → padded 16 m ∷ blocks (drop 16 m) ≡ blocks m
unfolding blocks
blocks_first m h =
    let l = length_tab (block_of (drop 16 m)) (chunk_count 16 (length (drop 16 m))) in
    tab_is (block_of m) [] (chunk_count 16 (length m)) (padded 16 m ∷ blocks (drop 16 m)) (omega (arith, length-drop 16 m)) at
  where
    at : (k : ℕ) → k < chunk_count 16 (length m) → get_or (padded 16 m ∷ blocks (drop 16 m)) k [] ≡ block_of m k
    at zero w = block_first m
    at (suc k) w = get_d_tab (block_of (drop 16 m)) (chunk_count 16 (length (drop 16 m))) k [] (omega (arith, length-drop 16 m)) ∙ block_next m k

no_blocks : (m : List ℕ) → length m ≡ 0 → [] ≡ blocks m
unfolding blocks
no_blocks [] h = refl
no_blocks (x ∷ m) h = absurd (omega arith)

-- ---- the data's blocks, chained from x
module _ (ks : List (List ℕ)) (x a : List ℕ) where
  pub data_none : length a ≡ 0 → x ≡ chain ks x (data_blocks a)
  unfolding data_blocks chain
  data_none h = rw (eq-eqb (length a) 0 h)

  module _ (some : length a ≡ 0 → ⊥) where
    data_whole : chain ks (cipher ks (xored 16 x (padded 16 (data_octets a)))) (blocks (drop 14 a)) ≡ chain ks x (data_blocks a)
    unfolding data_blocks chain
    data_whole = rw (ne_eqb (length a) 0 some) (ap (chain ks x) (blocks_first (data_octets a) (omega arith)))

    -- the first block b, chained to y as the code does it
    module _ (b z y : List ℕ) (eb : b ≡ padded 16 (data_octets a)) (ez : z ≡ xored 16 x b) (ey : y ≡ cipher ks z) where
      first_chained : y ≡ cipher ks (xored 16 x (padded 16 (data_octets a)))
      first_chained = ey ∙ ap (cipher ks) (ez ∙ ap (xored 16 x) eb)

      goes_on_law : chain ks y (blocks (drop 14 a)) ≡ chain ks x (data_blocks a)
      goes_on_law = ap (λ (w : List ℕ). chain ks w (blocks (drop 14 a))) first_chained ∙ data_whole

      pub data_short : length a ≤ 14 → y ≡ chain ks x (data_blocks a)
      unfolding chain
      data_short h = ap (chain ks y) (no_blocks (drop 14 a) (omega (arith, length-drop 14 a))) ∙ goes_on_law

      pub data_rest : (k : ℕ) (r : List ℕ) → k ≡ length a - 14 → r ≡ chain ks y (blocks (take k (drop 14 a))) → r ≡ chain ks x (data_blocks a)
      data_rest k r ek er = er ∙ ap (λ (l : List ℕ). chain ks y (blocks l)) (take_all k (drop 14 a) (omega (arith, length-drop 14 a))) ∙ goes_on_law
