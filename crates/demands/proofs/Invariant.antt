-- Every call keeps the invariant. Hearing and giving up a session keep it by the receiver's own laws. The sending calls
-- write two things: an element's next SEQ, which rises by one from at most 0xFFFFFF and so stays within its limit, and
-- the outgoing message, of which the invariant says nothing; keys, cache, replay list and sessions stay as they are.
-- Setup makes a good receiver, and by induction on the list every list of calls leaves one.
-- Assumes nothing.
use mathlib.Core.List.{List, [], ◌∷◌}
use mathlib.Core.Path.{◌∙◌}
use Prim.Native.Nat.{ℕ, ◌+◌, ◌≤◌}
use native.Mathlib.Omega.{arith}
use borrow.Author.Tests.{ltb-true, ltb-false, eqb-true, eqb-false}
use lib.Dec.{eqb, ltb}
use lib.ListN.{length, get_or, set, length-set}
use lib.Seq.{get_or-set_same, get_or-set_other, set_out}
use Rattle.common.proofs.Tests.{by_test}
use Rattle.memory.specs.Outgoing.{no_outgoing}
use Rattle.node.specs.Made.{NextWell}
use Rattle.receiver.specs.declared.state.Receiver.{Receiver}
use Rattle.receiver.specs.Good.{Good}
use Rattle.receiver.specs.Fresh.{setting_up}
use Rattle.receiver.proofs.Good.{good_fresh, good_hear}
use Rattle.receiver.proofs.GoodState.{good_outgoing, good_freed}
use Rattle.sending.specs.Transmission.{next_seq}
use Rattle.sending.proofs.Laws.Transmitted.{used}
use Rattle.demands.specs.Call.{Call, step, after}
use Rattle.demands.specs.Invariant.{GoodStep, GoodAfter}
use Rattle.demands.proofs.Left.{walk_step}

-- ---- a next SEQ that rises
next_raised : (elements : ℕ) (next : List ℕ) (element : ℕ) → NextWell elements next → get_or next element 0 ≤ 0xFFFFFF → NextWell elements (set next element (get_or next element 0 + 1))
next_raised elements next element w h =
    record {
      places = length-set next element (get_or next element 0 + 1) ∙ w.places;
      most = λ i b.
          by_test (eqb i element)
          (λ t.
          let e = eqb-true i element t in
          by_test (ltb element (length next))
          (λ u. rw (e, get_or-set_same next element (get_or next element 0 + 1) 0 (ltb-true element (length next) u)) (omega arith))
          (λ u. rw (set_out next element (get_or next element 0 + 1) (ltb-false element (length next) u)) (w.most i b)))
          (λ t. rw (get_or-set_other next element i (get_or next element 0 + 1) 0 (eqb-false i element t)) (w.most i b));
    }

module _ (r : Receiver) (g : Good r) where
  good_next : (element : ℕ) → next_seq r element ≤ 0xFFFFFF → Good (used r element)
  good_next element h =
      record {
        node_made = g.node_made;
        next_well = next_raised r.node.elements r.next element g.next_well h;
        cache_places = g.cache_places;
        replay_kept = g.replay_kept;
        sessions_kept = g.sessions_kept;
      }

-- ---- the calls
pub good_step : GoodStep
good_step r c g =
    walk_step r Good
    (record {
      hears = λ pdu fwd msg. good_hear r pdu fwd msg g;
      frees = λ slot _. good_freed r g slot;
      speaks =
          record {
            stays = g;
            sends = good_next r g;
            begins = λ element h o _. good_outgoing (used r element) (good_next r g element h) o;
            ends = good_outgoing r g no_outgoing;
          };
    }) c

good_run : (r : Receiver) (l : List Call) → Good r → Good (after r l)
good_run r [] g = g
good_run r (c ∷ l) g = good_run (step r c).receiver l (good_step r c g)

pub good_after : GoodAfter
good_after s l e = good_run (setting_up s).receiver l (good_fresh s e)
