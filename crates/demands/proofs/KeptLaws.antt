-- What a call leaves that sends, acknowledges or gives up the outgoing message: said or refused, it changes neither the node nor the cache, the replay list or the sessions, and these and
-- the places filled are all that a scene is seen by. Assumes nothing.
--   Kept           these parts of a receiver stay
--   kept_said      each such call keeps them
--   kept_own       so does each of the receiver's own
--   kept_scene     where they stay the scene stays
--   refilled       where the same places are filled the scene stays
use mathlib.Core.Bool.{true}
use mathlib.Core.List.{List}
use mathlib.Core.Path.{◌≡◌, refl, sym, ◌∙◌}
use Prim.Native.Nat.{ℕ}
use Rattle.memory.specs.declared.outgoing.Outgoing.{Outgoing}
use Rattle.node.specs.declared.addresses.Node.{Node}
use Rattle.node.specs.Index.{SameFixed, SameIndex}
use Rattle.receiver.specs.declared.state.Receiver.{Receiver}
use Rattle.receiver.specs.Good.{Good}
use Rattle.demands.specs.Call.{Call, Hear, GiveUp, SendAccess, SendControl, SendSegment, Acknowledge, Stop, step}
use Rattle.demands.specs.Interleaved.{Spent, is_own}
use Rattle.demands.specs.Speech.{Speech}
use Rattle.demands.proofs.Left.{says, walk_said}
use Rattle.demands.proofs.SceneLaws.{Scenery}

-- the parts of the receiver that a scene is seen by
pub record Kept (r q : Receiver) : Type 0 where
  pub setup_stays : SameFixed q.node r.node
  pub index_stays : SameIndex q.node r.node
  pub cache_stays : q.cache ≡ r.cache
  pub replay_stays : q.replay ≡ r.replay
  pub sessions_stay : q.sessions ≡ r.sessions

-- whatever it takes of its elements' SEQs, and whatever it sends
kept_all : (r : Receiver) (next : List ℕ) (out : Outgoing) → Kept r (record { node = r.node; next = next; cache = r.cache; replay = r.replay; sessions = r.sessions; out = out })
kept_all r next out = record { setup_stays = refl; index_stays = refl; cache_stays = refl; replay_stays = refl; sessions_stay = refl }

pub kept_said : (r : Receiver) (c : Call) → says c ≡ true → Kept r (step r c).receiver
kept_said r =
    walk_said r (Kept r) (record { stays = kept_all r _ _; sends = λ _ _. kept_all r _ _; begins = λ _ _ _ _. kept_all r _ _; ends = kept_all r _ _ })

own_says : (c : Call) → is_own c ≡ true → says c ≡ true
own_says (Hear pdu fwd msg) own = own
own_says (GiveUp src) own = own
own_says (SendAccess q key szmic payload buf) own = refl
own_says (SendControl q opcode parameters buf) own = refl
own_says (SendSegment n buf) own = refl
own_says (Acknowledge net src buf) own = refl
own_says Stop own = refl

pub kept_own : (r : Receiver) (c : Call) → is_own c ≡ true → Kept r (step r c).receiver
kept_own r c own = kept_said r c (own_says c own)

module _ (node : Node) (speeches : List Speech) (spent : Spent) where
  pub kept_scene : (r q : Receiver) (filled : ℕ → ℕ) → Kept r q → Good q → Scenery node speeches spent r filled → Scenery node speeches spent q filled
  kept_scene r q filled k g s =
      record {
        good = g;
        setup_same = k.setup_stays ∙ s.setup_same;
        index_same = k.index_stays ∙ s.index_same;
        others = s.others;
        stages = λ j h. rw (k.replay_stays, k.sessions_stay) (s.stages j h);
        sessions_owned = rw k.sessions_stay s.sessions_owned;
        entries_listed = rw k.replay_stays s.entries_listed;
        seen_come = λ j h w q e. s.seen_come j h w q (rw (sym k.cache_stays) e);
      }

  pub refilled : (r : Receiver) (filled more : ℕ → ℕ) → ((k : ℕ) → more k ≡ filled k) → Scenery node speeches spent r filled → Scenery node speeches spent r more
  refilled r filled more e s =
      record {
        good = s.good;
        setup_same = s.setup_same;
        index_same = s.index_same;
        others = s.others;
        stages = λ k h. rw (e k) (s.stages k h);
        sessions_owned = s.sessions_owned;
        entries_listed = s.entries_listed;
        seen_come = λ k h w q t. rw (e k) (s.seen_come k h w q t);
      }
