-- While a message is kept it stays what was begun: an acknowledgement changes only what is heard of it or ends it, no other is begun, and nothing else writes it. What setup fixed stays.
-- Assumes nothing.
--   Same, Still    the message is that one, but for what is heard; while one is kept
--   header_same    so its segments' headers are the same
--   still_step     a call leaves it so
--   fixed_step     a call leaves what setup fixed
use mathlib.Core.Path.{◌≡◌, refl, sym, ap, ◌∙◌}
use Prim.Native.Nat.{ℕ}
use Rattle.memory.specs.declared.outgoing.Outgoing.{Outgoing}
use Rattle.memory.specs.Outgoing.{no_outgoing, with_heard}
use Rattle.node.specs.Index.{SameFixed}
use Rattle.receiver.specs.declared.state.Receiver.{Receiver}
use Rattle.receiver.proofs.Laws.Fixed.{fixed_heard}
use Rattle.receiver.proofs.Laws.Outgoing.{outgoing_heard}
use Rattle.sending.specs.Segment.{segment_header}
use Rattle.sending.proofs.Laws.Shapes.{segment_unheard}
use Rattle.demands.specs.Call.{Call, step}
use Rattle.demands.proofs.Left.{walk_step}

-- ---- the same message, but for what is heard
abbrev pub Same : Outgoing → Outgoing → Type 0
Same o x = with_heard x 0 ≡ with_heard o 0

-- while one is kept
abbrev pub Still : Outgoing → Outgoing → Type 0
Still o x = (x.src ≡ 0 → ⊥) → Same o x

pub header_same : (o x : Outgoing) (n : ℕ) → Same o x → segment_header x n ≡ segment_header o n
header_same o x n e = sym (segment_unheard x 0 n) ∙ ap (λ (y : Outgoing). segment_header y n) e ∙ segment_unheard o 0 n

none_still : (o : Outgoing) → Still o no_outgoing
none_still o z = absurd (z refl)

-- ---- a call
module _ (o : Outgoing) (r : Receiver) (z : r.out.src ≡ 0 → ⊥) (g : Still o r.out) where
  pub still_step : (c : Call) → Still o (step r c).receiver.out
  still_step =
      walk_step r (λ (q : Receiver). Still o q.out)
      (record {
        hears = λ pdu fwd msg. outgoing_heard (Still o) r (none_still o) g (λ _. g) fwd msg pdu;
        frees = λ _ _. g;
        speaks = record { stays = g; sends = λ _ _. g; begins = λ _ _ _ b. absurd (z b.alone); ends = none_still o };
      })

-- ---- what setup fixed
module _ (r : Receiver) where
  abbrev Fixed : Receiver → Type 0
  Fixed q = SameFixed q.node r.node

  pub fixed_step : (c : Call) → Fixed (step r c).receiver
  fixed_step =
      walk_step r Fixed
      (record {
        hears = λ pdu fwd msg. (fixed_heard r fwd msg pdu).setup_stays;
        frees = λ _ _. refl;
        speaks = record { stays = refl; sends = λ _ _. refl; begins = λ _ _ _ _. refl; ends = refl };
      })
