-- Two lists of entries that agree, each with its operations: look-up and room are the same of every source, and stay so whatever is inserted into both. Then what the receiver keeps of a
-- message, and its decision on a segment, agree too. Of any two such lists. Assumes nothing.
--   Agree                                             what holds of the operations of two lists that agree
--   agree_accepted, agree_handed_up, agree_decision   what uses them
use mathlib.Core.List.{List}
use mathlib.Core.Path.{◌≡◌, refl, sym, ◌∙◌, subst}
use Prim.Native.Nat.{ℕ}
use borrow.Author.Tests.{eqb-true, eqb-false}
use lib.Dec.{eqb}
use Rattle.common.proofs.Tests.{by_test}
use Rattle.memory.specs.declared.pair.Pair.{Pair}
use Rattle.memory.specs.declared.replay.Entry.{Entry}
use Rattle.memory.specs.declared.replay.Last.{Last}
use Rattle.memory.specs.declared.session.Segment.{Segment}
use Rattle.memory.specs.declared.session.Session.{Session}
use Rattle.memory.specs.Decision.{decision_by}
use Rattle.memory.specs.Replay.{Listing, raised, accepted_by, handed_up_by}

pub record Agree (o n : Listing) (Both : List Entry → List Entry → Type 0) : Type 0 where
  pub looks : {a b : List Entry} → Both a b → (src : ℕ) → (src ≡ 0 → ⊥) → o.look_up a src ≡ n.look_up b src
  pub rooms : {a b : List Entry} → Both a b → (src : ℕ) → (src ≡ 0 → ⊥) → o.has_room a src ≡ n.has_room b src
  pub inserts : {a b : List Entry} → Both a b → (e : Entry) → (e.src ≡ 0 → ⊥) → Both (o.inserted a e) (n.inserted b e)
  -- an entry without a source is none
  pub empties : {a b : List Entry} → Both a b → (e f : Entry) → e.src ≡ 0 → f.src ≡ 0 → Both (o.inserted a e) (n.inserted b f)

module _ {o n : Listing} {Both : List Entry → List Entry → Type 0} (agree : Agree o n Both) {a b : List Entry} (both : Both a b) where
  -- an entry that is made of the one looked up
  agree_made :
      (src : ℕ) (made : Entry → Entry) → ((e : Entry) → (made e).src ≡ src) → Both (o.inserted a (made (o.look_up a src))) (n.inserted b (made (n.look_up b src)))
  agree_made src made own =
      by_test (eqb src 0)
      (λ t. let z = eqb-true src 0 t in agree.empties both _ _ (own _ ∙ z) (own _ ∙ z))
      (λ t.
      let z = eqb-false src 0 t in
      subst (λ (e : Entry). Both (o.inserted a (made e)) (n.inserted b (made (n.look_up b src)))) (sym (agree.looks both src z))
      (agree.inserts both (made (n.look_up b src)) (λ q. z (sym (own _) ∙ q))))

  pub agree_accepted : (src : ℕ) (pair : Pair) → Both (accepted_by o a src pair) (accepted_by n b src pair)
  unfolding accepted_by
  agree_accepted src pair = agree_made src (λ e. record { src = src; pair = raised e pair; last = e.last }) (λ e. refl)

  pub agree_handed_up : (src : ℕ) (last : Last) → Both (handed_up_by o a src last) (handed_up_by n b src last)
  unfolding handed_up_by
  agree_handed_up src last = agree_made src (λ e. record { src = src; pair = raised e last.auth; last = last }) (λ e. refl)

  pub agree_decision : (sessions : List Session) (src : ℕ) (seg : Segment) → (src ≡ 0 → ⊥) → decision_by o a sessions src seg ≡ decision_by n b sessions src seg
  unfolding decision_by
  agree_decision sessions src seg z = rw (agree.looks both src z, agree.rooms both src z) refl
