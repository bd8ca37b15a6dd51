-- The buffers that are lent to what a line asks of the receiver: how much of them, and that the answer to a PDU fits.
-- Assumes nothing.
use mathlib.Core.List.{List}
use mathlib.Core.Path.{◌≡◌, ap, ◌∙◌, sym}
use Prim.Native.Nat.{ℕ, min, ◌≤◌}
use native.Mathlib.Omega.{arith}
use borrow.Author.Tests.{ltb-true, ltb-false}
use lib.Dec.{ltb}
use lib.ListN.{length, replicate, take, length-take}
use lib.Seq.{take_all}
use Rattle.common.proofs.Tests.{by_test}
use Rattle.transport.specs.Segment.{message_octets}
use Rattle.receiver.specs.declared.answer.Heard.{Heard}
use Rattle.receiver.specs.declared.state.Receiver.{Receiver}
use Rattle.receiver.specs.Hearing.{outcome, hearing}
use Rattle.answers.specs.Fits.{Fits}
use Rattle.answers.proofs.Fits.{heard_fits}
use Rattle.console.specs.Receiving.{lent_of, hears_into}

-- of a buffer of zeros as much is lent as `room` said
pub lent_is : (n k : ℕ) (z : List ℕ) → z ≡ replicate message_octets 0 → k ≡ min n (length z) → take k z ≡ lent_of n
lent_is n k z h e =
    let all : take k z ≡ take n z =
    by_test (ltb n (length z))
    (λ t.
    let less = ltb-true n (length z) t in
    let same : k ≡ n = omega arith in
    ap (λ (j : ℕ). take j z) same)
    (λ t.
    let more = ltb-false n (length z) t in
    let whole : length z ≤ k = omega arith in
    take_all k z whole ∙ sym (take_all n z more)) in
    all ∙ ap (take n) h

-- the answer to a PDU fits: neither buffer that was lent has grown
pub heard_fits_into :
    (r : Receiver) (pdu forward message : List ℕ) (t : Heard) (f m : List ℕ) → outcome t f m ≡ hearing r pdu forward message → length f ≤ message_octets
    → length m ≤ message_octets → Fits (hears_into r pdu forward message).text
unfolding hears_into
heard_fits_into r pdu forward message t f m h lf lm =
    let part : length (take t.forwarded f) ≤ message_octets = simp length-take (omega (arith, lf)) in
    rw (← h) (heard_fits t.answer (record { network = t.network; application = t.application }) m (take t.forwarded f) lm part)
