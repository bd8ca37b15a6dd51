-- Every transmission that is sent takes a new SEQ: the two tests and what sealing answered say whether the receiver is the one before or has one
-- next SEQ written. Assumes nothing.
use mathlib.Core.Bool.{true, false, false≢true}
use mathlib.Core.List.{List}
use mathlib.Core.Logic.{◌⊎◌, inl, inr, ⊎_elim}
use mathlib.Core.Path.{◌≡◌, refl, sym, ap, ◌∙◌}
use Prim.Native.Nat.{ℕ, ◌+◌, ◌≤◌, ◌<◌}
use native.Mathlib.Omega.{arith}
use borrow.Author.Tests.{ltb-true, ltb-false, eqb-true, eqb-false}
use lib.Dec.{ltb, eqb}
use lib.ListN.{length, get_or-eq_default}
use lib.Seq.{get_or-set_same, get_or-set_other}
use Rattle.std.specs.Prelude.{Result, Ok, Err, is_ok}
use Rattle.common.specs.Lent.{Lent, lent}
use Rattle.common.proofs.Tests.{by_test, by_choice}
use Rattle.network.specs.declared.header.Header.{Header}
use Rattle.network.specs.declared.sealing.Refusal as sealing_refusal
use Rattle.network.specs.Candidates.{network_key_places, key_at}
use Rattle.network.specs.Sealing.{sealing}
use Rattle.receiver.specs.declared.state.Receiver.{Receiver}
use Rattle.sending.specs.declared.transmission.Transmitted.{Transmitted}
use Rattle.sending.specs.NewSeq.{UsesNext, RaisesNext, RefusalKeeps, OthersKeep, NeverFalls}
use Rattle.sending.specs.Transmission.{next_seq, with_next, stamped, sent_as, transmitted}

-- ---- a transmission is sent, and one next SEQ is written; or it is not, and nothing is
Sides : Receiver → ℕ → Transmitted → Type 0
Sides r element t = ((is_ok t.sent ≡ true) × (t.receiver ≡ with_next r element)) ⊎ ((is_ok t.sent ≡ false) × (t.receiver ≡ r))

sides_sealed : (a : Result ℕ sealing_refusal.Refusal) (r : Receiver) (element : ℕ) → Sides r element (sent_as a r element)
unfolding sent_as Sides
sides_sealed (Ok n) r element = inl (refl, refl)
sides_sealed (Err e) r element = inr (refl, refl)

sides : (r : Receiver) (element : ℕ) (h : Header) (buf : List ℕ) → Sides r element (transmitted r element h buf).answer
unfolding transmitted Sides
sides r element h buf =
    let P : Lent Transmitted → Type 0 = λ t. Sides r element t.answer in
    let s = sealing (key_at r.node.materials h.key) (stamped r element h) buf in
    by_choice P (ltb 0xFFFFFF (next_seq r element)) (λ t. inr (refl, refl))
    (λ t. by_choice P (ltb h.key network_key_places) (λ u. sides_sealed s.answer r element) (λ u. inr (refl, refl)))

-- ---- what is written is the element's own
next_own : (r : Receiver) (element : ℕ) → element < length r.next → next_seq (with_next r element) element ≡ next_seq r element + 1
unfolding with_next
next_own r element h = get_or-set_same r.next element (next_seq r element + 1) 0 h

next_other : (r : Receiver) (element other : ℕ) → (other ≡ element → ⊥) → next_seq (with_next r element) other ≡ next_seq r other
unfolding with_next
next_other r element other n = get_or-set_other r.next element other (next_seq r element + 1) 0 n

pub raises_next : RaisesNext
unfolding Sides
raises_next r element h buf k t =
    ⊎_elim
    (λ s. ap (λ (q : Receiver). next_seq q element) s.1 ∙ next_own r element k)
    (λ s. absurd (false≢true (sym s.0 ∙ t)))
    (sides r element h buf)

pub refusal_keeps : RefusalKeeps
unfolding Sides
refusal_keeps r element h buf f =
    ⊎_elim (λ s. absurd (false≢true (sym f ∙ s.0))) (λ s. s.1) (sides r element h buf)

pub others_keep : OthersKeep
unfolding Sides
others_keep r element h buf other n =
    ⊎_elim
    (λ s. ap (λ (q : Receiver). next_seq q other) s.1 ∙ next_other r element other n)
    (λ s. ap (λ (q : Receiver). next_seq q other) s.1)
    (sides r element h buf)

-- a next SEQ is raised, or not there and 0
pub next_rises : (r : Receiver) (element any : ℕ) → next_seq r any ≤ next_seq (with_next r element) any
next_rises r element any =
    by_test (eqb any element)
    (λ t.
    let e = eqb-true any element t in
    by_test (ltb element (length r.next))
    (λ u. let n = next_own r element (ltb-true element (length r.next) u) in rw e (omega arith))
    (λ u. let n : next_seq r element ≡ 0 = get_or-eq_default r.next 0 (ltb-false element (length r.next) u) in rw e (omega arith)))
    (λ t. let n = next_other r element any (eqb-false any element t) in omega arith)

pub never_falls : NeverFalls
unfolding Sides
never_falls r element h buf any =
    ⊎_elim
    (λ s.
    let e = ap (λ (q : Receiver). next_seq q any) s.1 in
    let n = next_rises r element any in
    omega arith)
    (λ s. let e = ap (λ (q : Receiver). next_seq q any) s.1 in omega arith)
    (sides r element h buf)

-- ---- what is sent was sealed
sealed_of : (a : Result ℕ sealing_refusal.Refusal) (r : Receiver) (element len : ℕ) → (sent_as a r element).sent ≡ Ok len → a ≡ Ok len
unfolding sent_as
sealed_of (Ok n) r element len e = let same : n ≡ len = cc in ap Ok same
sealed_of (Err x) r element len e = absurd (false≢true (ap is_ok e))

module _ (r : Receiver) (element : ℕ) (h : Header) (buf : List ℕ) (len : ℕ) where
  sealing_made : Lent (Result ℕ sealing_refusal.Refusal)
  sealing_made = sealing (key_at r.node.materials h.key) (stamped r element h) buf

  Made : Lent Transmitted → Type 0
  Made t = t.answer.sent ≡ Ok len → (next_seq r element ≤ 0xFFFFFF) × (sealing_made ≡ lent (Ok len) t.buffer)

  made_by_law : Made (transmitted r element h buf)
  unfolding transmitted Made sealing_made
  made_by_law =
      by_choice Made (ltb 0xFFFFFF (next_seq r element)) (λ t e. absurd (false≢true (ap is_ok e)))
      (λ t.
      by_choice Made (ltb h.key network_key_places)
      (λ u e. (
        ltb-false 0xFFFFFF (next_seq r element) t,
        ap (λ (a : Result ℕ sealing_refusal.Refusal). lent a sealing_made.buffer) (sealed_of sealing_made.answer r element len e),
      ))
      (λ u e. absurd (false≢true (ap is_ok e))))

stamped_next : (r : Receiver) (element : ℕ) (h : Header) → (stamped r element h).seq ≡ next_seq r element
unfolding stamped
stamped_next r element h = refl

pub uses_next : UsesNext
unfolding Made sealing_made
uses_next r element h buf len e =
    let m = made_by_law r element h buf len e in
    record { fits = m.0; stamp = stamped_next r element h; made = m.1 }
