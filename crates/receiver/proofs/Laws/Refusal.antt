-- How `hear` ends: with a refusal before the cache, and everything is as it was; or the PDU passed, and was cached, forwarded as `relayed` says and taken. Assumes nothing.
--   Late                           a refusal that leaves the PDU cached and forwarded: 6 to 13
--   Enters                         the PDU is in the cache
--   heard_either                   it is refused before the cache, or passes and is entered
--   heard_entered                  one that passes is entered
--   heard_refused                  each refusal is of one kind or the other
--   heard_ours                     22 is for what is ours alone
use mathlib.Core.Bool.{true, false≢true}
use mathlib.Core.List.{List}
use mathlib.Core.Logic.{◌⊎◌, inl, inr, ⊎_elim}
use mathlib.Core.Path.{◌≡◌, refl, sym, ap, ◌∙◌, subst}
use Prim.Native.Nat.{ℕ, ◌≤◌}
use lib.ListN.{length}
use Rattle.std.specs.Prelude.{Result, Err}
use Rattle.common.specs.Lent.{lent}
use Rattle.network.specs.declared.header.Header.{Header}
use Rattle.transport.specs.Segment.{message_octets}
use Rattle.memory.specs.Cache.{remembered}
use Rattle.receiver.specs.declared.answer.Answer.{Answer}
use Rattle.receiver.specs.declared.answer.Refusal.{Refusal}
use Rattle.receiver.specs.declared.answer.Refusal.TheVariants.{OwnSource}
use Rattle.receiver.specs.declared.state.Receiver.{Receiver}
use Rattle.receiver.specs.Hearing.{Outcome, relayed, taken, passed, passed_by, hearing}
use Rattle.receiver.specs.Passing.{Ours, Passes}
use Rattle.receiver.proofs.Laws.After.{left_behind, After, after_taken}
use Rattle.receiver.proofs.Laws.Fixed.{stays_taken}
use Rattle.receiver.proofs.Laws.Heard.{late, Refuses, Early, opening_of, caching, PassesSo, walk_hearing, heard_passed}

module _ (r : Receiver) (fwd msg : List ℕ) (h : Header) where
  -- n, with the PDU cached
  pub record Late (n : Refusal) (o : Outcome) : Type 0 where
    pub is_late : late n ≡ true
    pub left_is : o.heard.receiver ≡ left_behind (caching r h) h n
    pub message_stays : o.message ≡ msg
    -- the octets forwarded, and the forward buffer
    pub forwarded_as : lent o.heard.forwarded o.forward ≡ relayed r.node h fwd

  pub record Enters (o : Outcome) : Type 0 where
    pub cache_is : o.heard.receiver.cache ≡ remembered r.cache h
    pub refused_late : (n : Refusal) → o.heard.answer ≡ Err n → Late n o

  passed_enters : message_octets ≤ length msg → (trials : ℕ) → Enters (passed r h trials fwd msg)
  unfolding passed_by
  passed_enters room trials =
      let q = caching r h in
      let t = taken q h msg in
      record {
        cache_is = (stays_taken q h msg room).1;
        refused_late = λ n e.
            let a : After q h msg (Err n) t.answer.receiver t.buffer =
            subst (λ (x : Result Answer Refusal). After q h msg x t.answer.receiver t.buffer) e (after_taken q h msg room) in
            record { is_late = a.2; left_is = a.0; message_stays = a.1; forwarded_as = refl };
      }

module _ (r : Receiver) (pdu fwd msg : List ℕ) where
  -- refused before the cache, or passed and entered
  abbrev Either : Outcome → Type 0
  Either o = Early r fwd msg o ⊎ ((h : Header) × PassesSo r fwd msg pdu h × Enters r fwd msg h o)

  pub heard_either : Either (hearing r pdu fwd msg)
  heard_either =
      walk_hearing r fwd msg pdu Either (λ n trials s. inl (n, record { is_early = s.is_early; tried = trials; leaves = refl }))
      (λ h p. inr (h, p, passed_enters r fwd msg h p.opened.big _))

  pub heard_refused :
      (n : Refusal) → (let o = hearing r pdu fwd msg in o.heard.answer ≡ Err n → Refuses r fwd msg n o ⊎ ((h : Header) × PassesSo r fwd msg pdu h × Late r fwd msg h n o))
  heard_refused n e =
      let o = hearing r pdu fwd msg in
      ⊎_elim
      (λ y.
      let answered = sym (ap (λ (x : Outcome). x.heard.answer) y.1.leaves) ∙ e in
      let same : y.0 ≡ n = cc in
      inl (subst (λ (k : Refusal). Refuses r fwd msg k o) same y.1))
      (λ x. inr (x.0, x.1, x.2.refused_late n e)) heard_either

  -- what is refused 22 is ours
  pub heard_ours : (hearing r pdu fwd msg).heard.answer ≡ Err OwnSource → (h : Header) × Ours r pdu fwd msg (opening_of r pdu).trials h
  heard_ours =
      walk_hearing r fwd msg pdu (λ (x : Outcome). x.heard.answer ≡ Err OwnSource → (h : Header) × Ours r pdu fwd msg (opening_of r pdu).trials h)
      (λ n trials s e. let same : n ≡ OwnSource = cc in s.if_own same)
      (λ h p e. absurd (false≢true ((passed_enters r fwd msg h p.opened.big _).refused_late OwnSource e).is_late))

-- ---- a PDU that passes
pub heard_entered : {r : Receiver} {pdu fwd msg : List ℕ} {trials : ℕ} {h : Header} → Passes r pdu fwd msg trials h → Enters r fwd msg h (hearing r pdu fwd msg)
heard_entered {r} {fwd = fwd} {msg = msg} {trials = trials} {h = h} p =
    subst (Enters r fwd msg h) (sym (heard_passed p)) (passed_enters r fwd msg h p.opened.big trials)
