-- `modes::ccm::counter_mode` meets its contract: each octet is xored with its own of the stream, whose block is made anew where it begins.
-- Assumes nothing.
use mathlib.Core.Path.{◌≡◌, refl, sym, ap, ◌∙◌}
use mathlib.Core.List.{List}
use Prim.Native.Nat.{ℕ, ◌+◌, ◌/◌, ◌%◌}
use native.Mathlib.Omega.{arith}
use lib.Bits.{bit_xor}
use lib.ListN.{get_or}
use Rattle.common.proofs.Fill.{filled_none, filled_more, filled_all}
use Rattle.aes.specs.Cipher.{cipher}
use Rattle.modes.specs.Ccm.{stream, stream_octet, ctr}
use Rattle.modes.proofs.ccm.counter_mode.Invariants.{at_place}
use Rattle.modes.proofs.ccm.counter_mode.Goals as goal
use Rattle.modes.proofs.ccm.counter_mode.Goals.{then-j-eq0, else-j-eq0}

pub loop-j-init : goal.loop-j-init
loop-j-init c =
    let a = c.args in
    (filled_none 0 (at_place a.ks a.nonce a.src.now) _ a.dst.now c.requires.0, λ ne. absurd (ne refl))

pub loop-j-preserved : goal.loop-j-preserved
unfolding stream_octet stream
loop-j-preserved c =
    let l = c.loop-j in
    let a = c.args in
    let here : c.if-j-eq0.s ≡ stream a.ks a.nonce (l.j / 16 + 1) =
    elim c.if-j-eq0.branch [
      | then-j-eq0 w ↦ w.s-is ∙ w.encrypt-next.ensures ∙ ap (cipher _) w.ccm_block.ensures
      | else-j-eq0 w ↦ w.s-is ∙ l.invariant.1 w.if-j-eq0.false
    ] in (
      filled_more 0 (at_place a.ks a.nonce a.src.now) _ l.dst l.j _ l.invariant.0 (omega arith)
          (ap (λ (z : List ℕ). bit_xor (get_or a.src.now l.j 0) (get_or z (l.j % 16) 0)) here),
      λ ne. let q : (l.j + 1) / 16 ≡ l.j / 16 = omega (arith, ne) in rw q here,
    )

pub shape_of-dst : goal.shape_of-dst
shape_of-dst c = c.loop-j.invariant.0.1 ∙ sym c.requires.0

pub returns : goal.returns
unfolding ctr
returns c =
    let l = c.loop-j in
    let a = c.args in
    filled_all 0 (at_place a.ks a.nonce a.src.now) _ _ l.j l.invariant.0 (omega arith)
