-- A PDU shorter than a front has none of a segment; and what is laid so far, PDU by PDU.
-- Assumes nothing.
use mathlib.Core.Bool.{Bool, false}
use mathlib.Core.List.{List, [], ◌∷◌, ◌++◌, append_assoc, append-nil}
use mathlib.Core.Path.{◌≡◌, sym, ap, ap₂, ◌∙◌}
use Prim.Native.Nat.{ℕ, ◌+◌, ◌≤◌, ◌<◌}
use native.Mathlib.Omega.{arith}
use lib.ListN.{length, take, drop, length-append, length-take, take-append-drop}
use lib.Seq.{drop-drop, length-take-le}
use Rattle.common.specs.Lent.{lent}
use Rattle.common.specs.Lists.{same, onto}
use Rattle.common.proofs.Onto.{length_laid, laid_front, laid_rest}
use Rattle.common.proofs.Same.{same_lengths}
use Rattle.transport.specs.Segment.{segment_front}
use Rattle.transport.specs.Vetting.{joined}
use Rattle.transport.proofs.SegmentLaws.{length_front}

-- ---- a PDU shorter than a front has none
pub short_front : (p : List ℕ) (first : ℕ) (szmic : Bool) (seq_zero seg_o seg_n : ℕ) → length p < 4 → same (take 4 p) (segment_front first szmic seq_zero seg_o seg_n) ≡ false
short_front p first szmic seq_zero seg_o seg_n h =
    let long = length_front first szmic seq_zero seg_o seg_n in
    sym (same_lengths (take 4 p) (segment_front first szmic seq_zero seg_o seg_n) (λ x. omega (arith, length-take 4 p)))

-- ---- what stands behind the fronts
-- `to` octets are laid, which u has in front, and the PDUs that are left have the others; the rest of the buffer is what it was
pub record Laid (u out₀ : List ℕ) (to : ℕ) (left : List (List ℕ)) (out : List ℕ) : Type 0 where
  pub same_length : length out ≡ length out₀
  pub laid_so_far : take to out ++ joined left ≡ u
  pub rest_stays : drop to out ≡ drop to out₀
  pub within : to ≤ length out

module _ (u out₀ out p : List ℕ) (to : ℕ) (left before : List (List ℕ)) (l : Laid u out₀ to before out) (on : before ≡ p ∷ left) (room : length u ≤ length out₀) where
  abbrev piece : List ℕ
  piece = drop 4 p

  all_is : take to out ++ (piece ++ joined left) ≡ u
  unfolding joined
  all_is = rw on at l.laid_so_far

  pub laid_room : to + length piece ≤ length out
  laid_room =
      let a = ap length all_is in
      let b = length-append (take to out) (piece ++ joined left) in
      let c = length-append piece (joined left) in
      let d = length-take to out in
      let i = l.within in
      omega (arith, l.same_length)

  pub laid_more : (y : List ℕ) → y ≡ take to out ++ onto piece (drop to out) → Laid u out₀ (to + length piece) left y
  laid_more y ey =
      let long : length y ≡ length out = ap length ey ∙ length_laid piece out to laid_room in
      record {
        same_length = long ∙ l.same_length;
        laid_so_far = ap (λ (x : List ℕ). take (to + length piece) x ++ joined left) ey
            ∙ ap (λ (x : List ℕ). x ++ joined left) (laid_front piece out to laid_room) ∙ append_assoc (take to out) piece (joined left) ∙ all_is;
        rest_stays =
            ap (drop {A = ℕ} (to + length piece)) ey ∙ laid_rest piece out to laid_room ∙ sym (drop-drop (length piece) to out)
            ∙ ap (drop (length piece)) l.rest_stays ∙ drop-drop (length piece) to out₀;
        within = omega (arith, laid_room);
      }

pub laid_all : (u out₀ out : List ℕ) (to : ℕ) (left : List (List ℕ)) → Laid u out₀ to left out → left ≡ [] → lent to out ≡ lent (length u) (onto u out₀)
unfolding joined
laid_all u out₀ out to left l none =
    let whole : take to out ≡ u = sym (append-nil (take to out)) ∙ (rw none at l.laid_so_far) in
    let long : length u ≡ to = sym (ap length whole) ∙ length-take-le to out l.within in
    ap₂ (lent {A = ℕ}) (sym long) (sym (take-append-drop to out) ∙ ap₂ ◌++◌ whole (l.rest_stays ∙ ap (λ (k : ℕ). drop k out₀) (sym long)))
