-- The octets of what is sent: copied onto zeros, cut into segments; and the bounds of what may be sent. Assumes nothing.
use mathlib.Core.Bool.{Bool, true, false}
use mathlib.Core.List.{List, ◌++◌}
use mathlib.Core.Path.{◌≡◌, refl, sym, ap, ◌∙◌}
use Prim.Native.Nat.{ℕ, ◌+◌, ◌-◌, ◌*◌, ◌/◌, ◌%◌, min, ◌≤◌, ◌<◌}
use native.Mathlib.Nat.{mul_comm, add-div_right, div-eq_of_lt}
use native.Mathlib.Omega.{arith}
use borrow.Author.Tests.{ltb-true, ltb-false}
use lib.Dec.{ltb}
use lib.ListN.{length, take, drop, replicate, length-append, length-take, length-drop}
use lib.Seq.{take_all, take-take, drop_at}
use Rattle.common.specs.Chunks.{chunk}
use Rattle.common.specs.Lists.{padded, onto}
use Rattle.common.proofs.Onto.{onto_two}
use Rattle.common.proofs.Parts.{drop_take, take_own_length}
use Rattle.common.proofs.Tests.{by_test}
use Rattle.network.proofs.TrialLaws.{onto_zeros}
use Rattle.transport.specs.Segment.{full_octets, segment_front, last_segment}
use Rattle.transport.proofs.SegmentLaws.{length_front}
use Rattle.memory.specs.declared.outgoing.Outgoing.{Outgoing}
use Rattle.node.specs.declared.addresses.Node.{Node}
use Rattle.node.specs.Addresses.{element_places, is_local}
use Rattle.node.proofs.AddressesLaws.{local_bounds}
use Rattle.receiver.specs.declared.state.Receiver.{Receiver}
use Rattle.sending.specs.declared.request.Request.{Request}
use Rattle.sending.specs.Control.{control_allowed}
use Rattle.sending.specs.Request.{request_allowed}
use Rattle.sending.specs.Segment.{chunk_place, outgoing_chunk, segment_pdu, element_at}

-- ---- copied onto zeros
pub copied : (n : ℕ) (l left : List ℕ) → left ≡ onto (take n l) (replicate n 0) → length l ≤ n → left ≡ padded n l
copied n l left e h = e ∙ ap (λ (z : List ℕ). onto z (replicate n 0)) (take_all n l h) ∙ onto_zeros n l h

-- ---- SegN, over the octets of a full segment
pub last_segment_is : (size len : ℕ) → 0 < size → (len - 1) / size ≡ last_segment size len
unfolding last_segment
last_segment_is size len s =
    by_test (ltb 0 len)
    (λ t.
    let h = ltb-true 0 len t in
    let n : len + (size - 1) ≡ (len - 1) + size = omega arith in
    rw (n, add-div_right (len - 1) s) (omega arith))
    (λ t. let z = ltb-false 0 len t in rw (div-eq_of_lt {n = len - 1} {m = size} (omega arith), div-eq_of_lt {n = len + (size - 1)} {m = size} (omega arith)) refl)

pub last_segment_low : (ctl : Bool) (len : ℕ) → len ≤ 32 * full_octets ctl → (len - 1) / full_octets ctl < 256
last_segment_low true len h = omega arith
last_segment_low false len h = omega arith

length_chunk : (size seg_o start : ℕ) (l : List ℕ) → start ≡ seg_o * size → length (chunk size l seg_o) ≡ min size (length l - start)
length_chunk size seg_o start l e = rw (mul_comm size seg_o, ← e, length-take, length-drop)

-- ---- the chunk is a part of the bytes
chunk_taken :
    (size seg_o start end n : ℕ) (l : List ℕ) → start ≡ seg_o * size → end ≡ start + length (chunk size (take n l) seg_o)
    → take (end - start) (drop start l) ≡ chunk size (take n l) seg_o
chunk_taken size seg_o start end n l es ee =
    let x = drop start l in
    let y = take size (take (n - start) x) in
    let c : chunk size (take n l) seg_o ≡ y = rw (mul_comm size seg_o, ← es) (ap (take size) (drop_take start n l)) in
    let m : end - start ≡ length y = rw (← c) (omega arith) in
    let short : length y ≤ n - start = simp (length-take) (omega arith) in
    rw (m, c) (sym (take-take (length y) (n - start) x short) ∙ take_own_length size (take (n - start) x))

full_most : (ctl : Bool) → full_octets ctl ≤ 12
full_most true = omega arith
full_most false = omega arith

chunk_most : (o : Outgoing) (seg_o : ℕ) → length (outgoing_chunk o seg_o) ≤ 12
unfolding outgoing_chunk
chunk_most o seg_o = let f = full_most o.terms.ctl in simp length-take (omega arith)

-- four octets and up to twelve behind them, onto zeros
pdu_laid :
    (f m : List ℕ) → length f ≡ 4 → length m ≤ 12 → (y : List ℕ)
    → (let d = take 12 (drop 4 (f ++ drop 4 (replicate 16 0))) in y ≡ onto (take (length d) m) d)
    → take 4 (f ++ drop 4 (replicate 16 0)) ++ (y ++ drop 12 (drop 4 (f ++ drop 4 (replicate 16 0)))) ≡ padded 16 (f ++ m)
pdu_laid f m lf lm y ey =
    let z : List ℕ = replicate 16 0 in
    let d = take 12 (drop 4 (f ++ drop 4 z)) in
    let ld : length d ≡ 12 = ap (λ (l : List ℕ). length (take 12 l)) (drop_at f (drop 4 z) 4 lf) in
    let lu : length (f ++ drop 4 z) ≡ 16 = length-append f (drop 4 z) ∙ ap (λ (n : ℕ). n + 12) lf in
    let lt : length (f ++ m) ≡ 4 + length m = length-append f m ∙ ap (λ (n : ℕ). n + length m) lf in
    onto_two f m z 4 12 lf (omega arith) (omega arith) (ey ∙ ap (λ (l : List ℕ). onto l d) (take_all (length d) m (omega arith)))
    ∙ onto_zeros 16 (f ++ m) (omega arith)

module _ (o : Outgoing) (seg_o start end : ℕ) (es : start ≡ chunk_place o.terms.ctl seg_o)
    (ee : end ≡ chunk_place o.terms.ctl seg_o + length (outgoing_chunk o seg_o)) where
  -- how far it goes
  end_is : end ≡ start + length (outgoing_chunk o seg_o)
  end_is = rw (← es) at ee

  pub pdu_length : 4 + (end - start) ≡ length (segment_pdu o seg_o)
  unfolding segment_pdu outgoing_chunk
  pdu_length =
      let e = end_is in
      let m : end - start ≡ length (outgoing_chunk o seg_o) = omega arith in
      let f = segment_front o.terms.first o.terms.szmic (o.auth.seq % 8192) seg_o o.terms.segn in
      let lf : length f ≡ 4 = length_front o.terms.first o.terms.szmic (o.auth.seq % 8192) seg_o o.terms.segn in
      rw m (sym (length-append f (outgoing_chunk o seg_o) ∙ ap (λ (n : ℕ). n + length (outgoing_chunk o seg_o)) lf))

  part_is : take (end - start) (drop start o.bytes) ≡ outgoing_chunk o seg_o
  unfolding outgoing_chunk
  part_is = chunk_taken (full_octets o.terms.ctl) seg_o start end o.len o.bytes es end_is

  pub pdu_written :
      (f : List ℕ) → f ≡ segment_front o.terms.first o.terms.szmic (o.auth.seq % 8192) seg_o o.terms.segn
      → (t : List ℕ) → t ≡ onto (take 16 f) (replicate 16 0)
      → (y : List ℕ) → (let d = take 12 (drop 4 t) in y ≡ onto (take (length d) (take (end - start) (drop start o.bytes))) d)
      → take 4 t ++ (y ++ drop 12 (drop 4 t)) ≡ padded 16 (segment_pdu o seg_o)
  unfolding segment_pdu outgoing_chunk
  pdu_written f ef t et y ey =
      let lf : length f ≡ 4 = ap length ef ∙ length_front o.terms.first o.terms.szmic (o.auth.seq % 8192) seg_o o.terms.segn in
      let u : t ≡ f ++ drop 4 (replicate 16 0) =
      et ∙ ap (λ (l : List ℕ). onto l (replicate 16 0)) (take_all 16 f (omega arith)) ∙ ap (λ (n : ℕ). f ++ drop n (replicate 16 0)) lf in
      rw (u, ← ef) (pdu_laid f (outgoing_chunk o seg_o) lf (chunk_most o seg_o) y (rw (u, part_is) at ey))

-- ---- what may be sent
pub local_low : (node : Node) (a : ℕ) → is_local node a ≡ true → element_at node a < element_places
local_low node a t = omega (arith, local_bounds node a t)

module _ (r : Receiver) (q : Request) (opcode len : ℕ) (allowed : control_allowed r q opcode len ≡ true) where
  pub element_within : q.element < element_places
  unfolding control_allowed request_allowed
  element_within = grind arith

  pub parameters_within : len ≤ 256
  unfolding control_allowed
  parameters_within = grind arith
