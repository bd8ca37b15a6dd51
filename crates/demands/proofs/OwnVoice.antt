-- 22 is the receiver's own stage, and no other number is 22. What is listed is the SRC of a PDU that passed, so of another node, or 0, which is no element's since elements are unicast; which
-- addresses are ours no call changes. Assumes nothing.
use mathlib.Core.Bool.{false}
use mathlib.Core.List.{List, [], ◌∷◌}
use mathlib.Core.Path.{◌≡◌, refl, sym, ap, ◌∙◌, subst}
use Prim.Native.Nat.{ℕ}
use native.Mathlib.Omega.{arith}
use Rattle.std.specs.Prelude.{Result, Ok, Err}
use Rattle.common.proofs.Tests.{by_test}
use Rattle.network.proofs.AddressLaws.{unicast_some}
use Rattle.node.specs.declared.addresses.Node.{Node}
use Rattle.node.specs.Addresses.{is_local}
use Rattle.node.specs.Index.{SameFixed}
use Rattle.node.specs.Made.{WellMade}
use Rattle.node.proofs.IndexLaws.{local_fixed}
use Rattle.node.proofs.SetupLaws.{local_is_unicast}
use Rattle.receiver.specs.declared.answer.Refusal.{Refusal}
use Rattle.receiver.specs.declared.answer.Answer as heard_answer
use Rattle.receiver.specs.declared.answer.Answer.TheVariants.{Stored, Repeated, Access, Control, Acknowledgement}
use Rattle.receiver.specs.declared.answer.Refusal.TheVariants.{OwnSource}
use Rattle.receiver.specs.declared.state.Receiver.{Receiver}
use Rattle.receiver.specs.Hearing.{hearing}
use Rattle.receiver.proofs.AnswerLaws.{number_apart}
use Rattle.receiver.proofs.Good.{good_fresh}
use Rattle.receiver.proofs.Laws.Fresh.{fresh_is, made as setup_made}
use Rattle.receiver.proofs.Laws.Heard.{heard_own}
use Rattle.receiver.proofs.Laws.Refusal.{heard_ours}
use Rattle.receiver.proofs.Laws.Sources.{Lists, lists_fresh, lists_freed, lists_heard}
use Rattle.demands.specs.Answers.{number_of}
use Rattle.demands.specs.Call.{Call, Heard, step, after}
use Rattle.demands.specs.Interleaved.{start}
use Rattle.demands.specs.OwnVoice.{OwnExactly, NeverListed}
use Rattle.demands.proofs.Left.{walk_step}
use Rattle.demands.proofs.Still.{fixed_step}

-- ---- 22
own_answer : (a : Result heard_answer.Answer Refusal) → number_of (Heard a) ≡ 22 → a ≡ Err OwnSource
own_answer (Err n) e = ap Err (number_apart n OwnSource e)
own_answer (Ok (Stored src auth bits)) e = absurd (omega arith)
own_answer (Ok (Repeated src auth bits)) e = absurd (omega arith)
own_answer (Ok (Access src dst net key pair len)) e = absurd (omega arith)
own_answer (Ok (Control src dst net opcode pair len)) e = absurd (omega arith)
own_answer (Ok (Acknowledgement src bits effect)) e = absurd (omega arith)

pub own_exactly : OwnExactly
own_exactly = (
  (λ r pdu fwd msg trials h. heard_own),
  (λ r pdu fwd msg e. let x = heard_ours r pdu fwd msg (own_answer (hearing r pdu fwd msg).heard.answer e) in (_, x.0, x.1)),
)

-- ---- whom we list
module _ (node : Node) (made : WellMade node) where
  abbrev Other : ℕ → Type 0
  Other a = is_local node a ≡ false

  none_other : Other 0
  none_other = by_test (is_local node 0) (λ t. absurd (unicast_some 0 (local_is_unicast node made 0 t) refl)) (λ t. t)

  others_step : (r : Receiver) → SameFixed r.node node → Lists Other r → (c : Call) → Lists Other (step r c).receiver
  others_step r same l =
      walk_step r (Lists Other)
      (record {
        hears = λ pdu fwd msg. lists_heard Other none_other r l pdu fwd msg (λ h p. sym (local_fixed r.node node same _) ∙ p.other);
        frees = λ slot _. lists_freed Other none_other r l slot;
        speaks = record { stays = l; sends = λ _ _. l; begins = λ _ _ _ _. l; ends = l };
      })

  others_after : (r : Receiver) → SameFixed r.node node → Lists Other r → (l : List Call) → Lists Other (after r l) × SameFixed (after r l).node node
  others_after r same o [] = (o, same)
  others_after r same o (c ∷ l) = others_after (step r c).receiver (fixed_step r c ∙ same) (others_step r same o c) l

pub never_listed : NeverListed
never_listed s l e =
    let node = (start s).node in
    let made = (good_fresh s e).node_made in
    let fresh = lists_fresh (Other node made) (none_other node made) (setup_made s).node (setup_made s).next in
    let begins = subst (Lists (Other node made)) (sym (fresh_is s)) fresh in
    let x = others_after node made (start s) refl begins l in
    let same = local_fixed (after (start s) l).node node x.1 in
    record {
      cache_others = λ i. same _ ∙ x.0.cached i;
      entries_others = λ i. same _ ∙ x.0.entries i;
      sessions_others = λ i. same _ ∙ x.0.held i;
    }
