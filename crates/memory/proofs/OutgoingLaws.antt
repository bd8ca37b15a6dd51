-- What a heard acknowledgement does: of the message it changes what is heard, or ends it; and of segments that are there no bit is ignored.
-- Assumes nothing.
use mathlib.Core.Bool.{Bool}
use mathlib.Core.Path.{◌≡◌, refl, ◌∙◌}
use Prim.Native.Nat.{ℕ, ◌+◌, ◌-◌, ◌^◌, ◌<◌, min}
use native.Mathlib.Nat.{mod-eq_of_lt}
use native.Mathlib.Omega.{arith}
use lib.Bits.{bit_and, bit_or, and_mask}
use lib.Dec.{eqb}
use Rattle.common.specs.Bits.{all_bits}
use Rattle.common.proofs.Tests.{by_choice}
use Rattle.network.specs.declared.header.Header.{Header}
use Rattle.memory.specs.declared.outgoing.Outgoing.{Outgoing}
use Rattle.memory.specs.declared.outgoing.Acknowledged.{Acknowledged}
use Rattle.memory.specs.Outgoing.{no_outgoing, fits_outgoing, heard_with, with_heard, acknowledging}

-- ---- what it leaves of the message: it, with other segments heard, or none
pub by_acknowledging :
    (P : Outgoing → Type 0) (out : Outgoing) (h : Header) (obo : Bool) (seq_zero bits : ℕ) → P no_outgoing → P out → ((heard : ℕ) → P (with_heard out heard))
    → P (acknowledging out h obo seq_zero bits).out
unfolding acknowledging
by_acknowledging P out h obo seq_zero bits none same marked =
    let Q : Acknowledged → Type 0 = λ a. P a.out in
    let heard = heard_with out bits in
    by_choice Q (fits_outgoing out h obo seq_zero)
    (λ _. by_choice Q (eqb bits 0) (λ _. none)
    (λ _. by_choice Q (eqb heard (all_bits out.terms.segn)) (λ _. none)
    (λ _. by_choice Q (eqb heard out.heard) (λ _. same) (λ _. marked heard))))
    (λ _. same)

-- ---- bits to SegN: none is ignored
pub heard_within :
    (out : Outgoing) (bits : ℕ) → out.terms.segn < 32 → bits < 2 ^ (out.terms.segn + 1) → heard_with out bits ≡ bit_or out.heard bits
unfolding heard_with all_bits
heard_within out bits low within =
    let n : min out.terms.segn 31 ≡ out.terms.segn = omega arith in
    let all : bit_and bits (2 ^ (out.terms.segn + 1) - 1) ≡ bits = and_mask bits (out.terms.segn + 1) ∙ mod-eq_of_lt within in
    rw (n, all) refl
