-- A clause that is an equation determines whatever is read off its left side: two outcomes that satisfy it have left sides that are both what the right side
-- is, which the outcome is no part of, so they are equal, and so is what is read off them. Where a contract has two clauses, one of them is enough. Assumes nothing.
use mathlib.Core.Path.{◌≡◌, sym, ◌∙◌, ap}
use seplogic.Ra.Ura.{Ura}
use base.Logic.{SProp, ent, via, id⊢, fst∗, snd∗, sep}
use contract.Monad.{conj, conj_l, conj_r, fact, fact_i, fact_use}
use Rattle.determinacy.specs.Outcome.{Model}

module _ (m : Model) where
  abbrev 𝓤 : Ura m.carrier
  𝓤 = m.algebra

  -- what two outcomes satisfy gives an equation for each; the left sides are then read alike
  both :
      (P Q : SProp 𝓤) {D O : Type 0} {l k d : D} →
      ent 𝓤 P (fact 𝓤 (l ≡ d)) → ent 𝓤 Q (fact 𝓤 (k ≡ d)) → (read : D → O) → ent 𝓤 (conj 𝓤 P Q) (fact 𝓤 (read l ≡ read k))
  both P Q {l} {k} {d} p q read =
      let one : ent 𝓤 (conj 𝓤 P Q) (fact 𝓤 (l ≡ d)) = via 𝓤 P (conj_l 𝓤 P Q) p in
      let other : ent 𝓤 (conj 𝓤 P Q) (fact 𝓤 (k ≡ d)) = via 𝓤 Q (conj_r 𝓤 P Q) q in
      fact_use 𝓤 (l ≡ d) one (λ x. fact_use 𝓤 (k ≡ d) other (λ y. fact_i 𝓤 (read l ≡ read k) (conj 𝓤 P Q) (ap read (x ∙ sym y))))

  -- of one clause
  pub of_one : {D O : Type 0} {l k d : D} (read : D → O) → ent 𝓤 (conj 𝓤 (fact 𝓤 (l ≡ d)) (fact 𝓤 (k ≡ d))) (fact 𝓤 (read l ≡ read k))
  of_one {l} {k} {d} = both (fact 𝓤 (l ≡ d)) (fact 𝓤 (k ≡ d)) (id⊢ 𝓤 (fact 𝓤 (l ≡ d))) (id⊢ 𝓤 (fact 𝓤 (k ≡ d)))

  -- of two clauses, the first
  pub of_first :
      {D O : Type 0} {l k d : D} {φ ψ : Type 0} (read : D → O) →
      ent 𝓤 (conj 𝓤 (sep 𝓤 (fact 𝓤 (l ≡ d)) (fact 𝓤 φ)) (sep 𝓤 (fact 𝓤 (k ≡ d)) (fact 𝓤 ψ))) (fact 𝓤 (read l ≡ read k))
  of_first {l} {k} {d} {φ} {ψ} =
      both
      (sep 𝓤 (fact 𝓤 (l ≡ d)) (fact 𝓤 φ))
      (sep 𝓤 (fact 𝓤 (k ≡ d)) (fact 𝓤 ψ))
      (fst∗ 𝓤 (fact 𝓤 (l ≡ d)) (fact 𝓤 φ))
      (fst∗ 𝓤 (fact 𝓤 (k ≡ d)) (fact 𝓤 ψ))

  -- of two clauses, the second
  pub of_second :
      {D O : Type 0} {l k d : D} {φ ψ : Type 0} (read : D → O) →
      ent 𝓤 (conj 𝓤 (sep 𝓤 (fact 𝓤 φ) (fact 𝓤 (l ≡ d))) (sep 𝓤 (fact 𝓤 ψ) (fact 𝓤 (k ≡ d)))) (fact 𝓤 (read l ≡ read k))
  of_second {l} {k} {d} {φ} {ψ} =
      both
      (sep 𝓤 (fact 𝓤 φ) (fact 𝓤 (l ≡ d)))
      (sep 𝓤 (fact 𝓤 ψ) (fact 𝓤 (k ≡ d)))
      (snd∗ 𝓤 (fact 𝓤 φ) (fact 𝓤 (l ≡ d)))
      (snd∗ 𝓤 (fact 𝓤 ψ) (fact 𝓤 (k ≡ d)))
