-- What comes of the input octet by octet: the octets up to a newline are gathered at once, and a line that ends is heard or done.
-- Assumes nothing.
use mathlib.Core.Bool.{true, false}
use mathlib.Core.List.{List, [], ◌∷◌, ◌++◌, append_assoc, append-nil}
use mathlib.Core.Path.{◌≡◌, refl, ap, ap₂, sym, ◌∙◌}
use Prim.Native.Nat.{ℕ, suc, ◌+◌, ◌-◌, ◌≤◌, ◌<◌}
use native.Mathlib.Omega.{arith}
use borrow.Author.Tests.{ltb-true, ltb-false, lt-ltb, le-ltb}
use lib.Dec.{eqb, ltb}
use lib.ListN.{length, take, drop, get_or, length-take, length-drop, drop_of_length-le}
use lib.Seq.{take_all, take-append_seam, drop-cons, drop-drop, drop-length}
use Rattle.common.specs.Lent.{Lent, lent}
use Rattle.common.specs.Search.{first as place_of}
use Rattle.common.proofs.Search.{first_le, first_passes}
use Rattle.common.proofs.Tests.{by_test}
use Rattle.text.specs.Field.{is}
use Rattle.text.specs.Written.{written, putting}
use Rattle.text.proofs.WrittenLaws.{take_front}
use Rattle.console.specs.declared.step.Console.{Console}
use Rattle.console.specs.Step.{answering}
use Rattle.console.specs.Input.{Reader, reader, freed, KeepsFree, behind_answers, ended, reads, reads_all, with_answers, InBlocks, Gathers}

module _ (n at : ℕ) where
  pub freed_short : n < at + 8192 → 0 ≡ freed n at
  unfolding freed
  freed_short h = rw (lt-ltb n (at + 8192) h)

  pub freed_long : at + 8192 ≤ n → at ≡ freed n at
  unfolding freed
  freed_long h = rw (le-ltb n (at + 8192) h)

-- 8,192 octets are free
pub keeps_free : KeepsFree
keeps_free n at h =
    by_test (ltb n (at + 8192)) (λ t. omega (arith, freed_short n at (ltb-true n (at + 8192) t)))
    (λ t. omega (arith, ltb-false n (at + 8192) t, freed_long n at (ltb-false n (at + 8192) t)))

module _ (n : ℕ) (c : Console) (octets : List ℕ) (a : Lent ℕ) where
  newline : (line : List ℕ) (x : ℕ) → eqb x 10 ≡ true → reads n (reader c line octets a) x ≡ ended (reader c line octets a)
  unfolding reads
  newline line x t = rw t

  other : (line : List ℕ) (x : ℕ) → eqb x 10 ≡ false → reads n (reader c line octets a) x ≡ reader c (take n (line ++ (x ∷ []))) octets a
  unfolding reads
  other line x t = rw t

  -- the octets up to a newline are of the line
  up_to_newline :
      (d line : List ℕ) → length line ≤ n
      → reads_all n (reader c line octets a) d ≡ reads_all n (reader c (take n (line ++ take (place_of (is 10) d) d)) octets a) (drop (place_of (is 10) d) d)
  unfolding place_of reads_all
  up_to_newline [] line h = ap (λ (l : List ℕ). reader c l octets a) (sym (ap (take n) (append-nil line) ∙ take_all n line h))
  up_to_newline (x ∷ d) line h =
      let k = place_of (is 10) d in
      let one = line ++ (x ∷ []) in
      let at : ℕ → Reader = (λ (m : ℕ). reads_all n (reader c (take n (line ++ take m (x ∷ d))) octets a) (drop m (x ∷ d))) in
      by_test (eqb x 10)
      (λ t.
      let here : place_of (is 10) (x ∷ d) ≡ 0 = rw t in
      ap (λ (l : List ℕ). reads_all n (reader c l octets a) (x ∷ d)) (sym (ap (take n) (append-nil line) ∙ take_all n line h)) ∙ ap at (sym here))
      (λ t.
      let later : place_of (is 10) (x ∷ d) ≡ suc k = rw t in
      ap (λ (s : Reader). reads_all n s d) (other line x t)
      ∙ up_to_newline d (take n one) (simp length-take (omega arith))
      ∙ ap (λ (l : List ℕ). reads_all n (reader c l octets a) (drop k d)) (take_front n one (take k d) ∙ ap (take n) (append_assoc line (x ∷ []) (take k d)))
      ∙ ap at (sym later))

  -- a newline ends the line
  at_newline :
      (d line : List ℕ) → place_of (is 10) d < length d
      → reads_all n (reader c line octets a) (drop (place_of (is 10) d) d) ≡ reads_all n (ended (reader c line octets a)) (drop (suc (place_of (is 10) d)) d)
  unfolding reads_all
  at_newline d line h =
      let k = place_of (is 10) d in
      ap (reads_all n (reader c line octets a)) (drop-cons d k 0 h)
      ∙ ap (λ (s : Reader). reads_all n s (drop (suc k) d)) (newline line (get_or d k 0) (first_passes (is 10) d 0 h))

-- what was put behind the octets gathered, as far as there is room
put_text :
    (s line line' : List ℕ) (gathered more : ℕ) → lent more line' ≡ putting s line gathered → take more line' ≡ take (length line) (take gathered line ++ s)
unfolding putting
put_text s line line' gathered more e =
    let w = written line gathered s in
    let er : more ≡ length w = ap (λ (p : Lent ℕ). p.answer) e in
    let eo : line' ≡ w ++ drop (length w) line = ap (λ (p : Lent ℕ). p.buffer) e in
    ap₂ take er eo ∙ take-append_seam w (drop (length w) line)

-- ---- a piece of a block, from `at` to its `end`
module _ (block line line' s : List ℕ) (at gathered end more : ℕ) (e : end ≡ at + place_of (is 10) (drop at block)) (cut : s ≡ take (end - at) (take (length block - at) (drop at block)))
    (puts : lent more line' ≡ putting s line gathered) where
  to_end :
      (c : Console) (octets : List ℕ) (a : Lent ℕ)
      → reads_all (length line) (reader c (take gathered line) octets a) (drop at block)
      ≡ reads_all (length line) (reader c (take more line') octets a) (drop (place_of (is 10) (drop at block)) (drop at block))
  to_end c octets a =
      let d = drop at block in
      let k = place_of (is 10) d in
      let same : end - at ≡ k = omega arith in
      let all : take (length block - at) d ≡ d = take_all (length block - at) d (omega (arith, length-drop at block)) in
      let piece : s ≡ take k d = cut ∙ ap₂ take same all in
      let text : take (length line) (take gathered line ++ take k d) ≡ take more line' =
      ap (λ (l : List ℕ). take (length line) (take gathered line ++ l)) (sym piece) ∙ sym (put_text s line line' gathered more puts) in
      up_to_newline (length line) c octets a d (take gathered line) (simp length-take (omega arith))
      ∙ ap (λ (l : List ℕ). reads_all (length line) (reader c l octets a) (drop k d)) text

  pub gathers_whole : end < length block → Gathers (length line) (take gathered line) (drop at block) true (take more line') (drop (end + 1) block)
  gathers_whole h c octets a =
      let d = drop at block in
      let k = place_of (is 10) d in
      let before : k < length d = omega (arith, length-drop at block) in
      let next : at + suc k ≡ end + 1 = omega arith in
      to_end c octets a ∙ at_newline (length line) c octets a d (take more line') before
      ∙ ap (reads_all (length line) (ended (reader c (take more line') octets a))) (drop-drop (suc k) at block ∙ ap (λ (j : ℕ). drop j block) next)

  pub gathers_part : length block ≤ end → Gathers (length line) (take gathered line) (drop at block) false (take more line') (drop (length block) block)
  gathers_part h c octets a =
      let d = drop at block in
      let k = place_of (is 10) d in
      let all : length d ≡ k = omega (arith, length-drop at block, first_le (is 10) d) in
      let none : drop k d ≡ [] = ap (λ (j : ℕ). drop j d) (sym all) ∙ drop-length d in
      to_end c octets a ∙ ap (reads_all (length line) (reader c (take more line') octets a)) (none ∙ sym (drop-length block))

-- nothing is left of the block
pub all_read : (n : ℕ) (s : Reader) (block : List ℕ) (at : ℕ) (all : Reader) → length block ≤ at → reads_all n s (drop at block) ≡ all → s ≡ all
unfolding reads_all
all_read n s block at all h e = ap (reads_all n s) (sym (drop_of_length-le block h)) ∙ e

-- ---- blocks
-- an octet does the same, wherever answers stand
reads_with : (n : ℕ) (s : Reader) (a : Lent ℕ) (x : ℕ) → (b : Lent ℕ) × (reads n (with_answers s a) x ≡ with_answers (reads n s x) b)
unfolding reads ended
reads_with n s a x =
    by_test (eqb x 10) (λ t. (behind_answers (answering s.state s.line s.octets).text a, rw t)) (λ t. (a, rw t))

reads_all_with : (n : ℕ) (s : Reader) (a z : Lent ℕ) (d : List ℕ) → with_answers (reads_all n s d) z ≡ with_answers (reads_all n (with_answers s a) d) z
unfolding reads_all
reads_all_with n s a z [] = refl
reads_all_with n s a z (x ∷ d) =
    let one = reads_with n s a x in
    reads_all_with n (reads n s x) one.0 z d ∙ ap (λ (r : Reader). with_answers (reads_all n r d) z) (sym one.1)

reads_all_append : (n : ℕ) (s : Reader) (first rest : List ℕ) → reads_all n s (first ++ rest) ≡ reads_all n (reads_all n s first) rest
unfolding reads_all
reads_all_append n s [] rest = refl
reads_all_append n s (x ∷ first) rest = reads_all_append n (reads n s x) first rest

pub in_blocks : InBlocks
in_blocks n s a z first rest =
    ap (λ (r : Reader). with_answers r z) (reads_all_append n s first rest) ∙ reads_all_with n (reads_all n s first) a z rest
