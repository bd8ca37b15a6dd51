-- The rules of the call: one for each answer. What is approved is an allowed message, so it has room in the buffer.
-- Assumes nothing.
use mathlib.Core.Bool.{Bool}
use mathlib.Core.List.{List}
use mathlib.Core.Path.{◌≡◌, refl, sym, ap, ◌∙◌}
use Prim.Native.Nat.{ℕ, ◌≤◌, ◌<◌}
use native.Mathlib.Omega.{arith}
use borrow.Author.Tests.{lt-ltb}
use lib.ListN.{length}
use Rattle.std.specs.Prelude.{Result, Ok, Err, ⊤}
use Rattle.common.specs.Lent.{Lent, lent}
use Rattle.common.specs.Lists.{onto}
use Rattle.transport.specs.declared.vetting.Refusal.{Refusal}
use Rattle.transport.specs.declared.vetting.Refusal.TheVariants.{ShortBuffer}
use Rattle.transport.specs.Listed.{pdus}
use Rattle.transport.specs.Segment.{message_octets}
use Rattle.transport.specs.Vetting.{judged, joined, shown, vetting}
use Rattle.transport.proofs.FitLaws.{most_low}
use Rattle.transport.proofs.VettedExactly.{whole_are, vetting_long}

module _ (ctl : Bool) (list out : List ℕ) where
  pub vet_short : length out < message_octets → lent (Err ShortBuffer) out ≡ vetting ctl list out
  unfolding vetting
  vet_short h = rw (lt-ltb (length out) message_octets h) refl

  module _ (h : message_octets ≤ length out) (j : Result ⊤ Refusal) (ej : j ≡ judged ctl (pdus list)) where
    shows : (k : Result ⊤ Refusal) → j ≡ k → shown k (joined (pdus list)) out ≡ vetting ctl list out
    shows k e = ap (λ (x : Result ⊤ Refusal). shown x (joined (pdus list)) out) (sym e ∙ ej) ∙ sym (vetting_long ctl list out h)

    pub vet_room : j ≡ Ok tt → length (joined (pdus list)) ≤ length out
    vet_room e = omega (arith, (whole_are ctl (pdus list) (sym ej ∙ e)).allowed.not_longer, most_low ctl)

    pub vet_whole :
        (w : ⊤) → j ≡ Ok w → (n : ℕ) (o : List ℕ) → lent n o ≡ lent (length (joined (pdus list))) (onto (joined (pdus list)) out)
        → lent (Ok n) o ≡ vetting ctl list out
    vet_whole w e n o eo = ap (λ (x : Lent ℕ). lent (Ok x.answer) x.buffer) eo ∙ shows (Ok w) e

    pub vet_refused : (r : Refusal) → j ≡ Err r → lent (Err r) out ≡ vetting ctl list out
    vet_refused r e = shows (Err r) e

pub ruleset vet_rules = (vet_short, vet_whole, vet_refused)
