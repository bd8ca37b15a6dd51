-- What setup fixed stays, the IV Index with its flag, and every next SEQ: hearing writes only cache, replay list, sessions and outgoing message, and the cache in one place alone.
-- Assumes nothing.
--   Fixed r q      r left q
--   stays_taken    so it is behind the cache, and the cache stays there
--   fixed_heard    so it is of every call
use mathlib.Core.List.{List}
use mathlib.Core.Path.{◌≡◌, refl}
use Prim.Native.Nat.{ℕ, ◌≤◌}
use lib.ListN.{length}
use Rattle.common.specs.Lent.{Lent}
use Rattle.network.specs.declared.header.Header.{Header}
use Rattle.transport.specs.Segment.{message_octets}
use Rattle.memory.specs.declared.outgoing.Outgoing.{Outgoing}
use Rattle.memory.specs.declared.replay.Entry.{Entry}
use Rattle.memory.specs.declared.session.Session.{Session}
use Rattle.node.specs.Index.{SameFixed, SameIndex}
use Rattle.receiver.specs.declared.answer.Taken.{Taken}
use Rattle.receiver.specs.declared.state.Receiver.{Receiver}
use Rattle.receiver.specs.Hearing.{Outcome, taken, passed, passed_by, hearing}
use Rattle.receiver.specs.Segmented.{upgraded_by, access_up_as_by, control_up_by}
use Rattle.receiver.specs.Whole.{admitted_by, opened_as_by, whole_control_up_by, acted_by}
use Rattle.receiver.proofs.Laws.Heard.{caching, walk_hearing}
use Rattle.receiver.proofs.Laws.Ways.{Ways, walk_taken}

-- r left q
pub record Fixed (r q : Receiver) : Type 0 where
  pub setup_stays : SameFixed q.node r.node
  pub index_stays : SameIndex q.node r.node
  pub next_stays : q.next ≡ r.next

-- ---- behind the cache
module _ (q : Receiver) (h : Header) (msg : List ℕ) where
  abbrev Stays : Receiver → Type 0
  Stays left = Fixed q left × (left.cache ≡ q.cache)

  -- the parts that are written there
  written :
      {replay : List Entry} {sessions : List Session} {out : Outgoing}
      → Stays (record { node = q.node; next = q.next; cache = q.cache; replay = replay; sessions = sessions; out = out })
  written = (record { setup_stays = refl; index_stays = refl; next_stays = refl }, refl)

  ways : Ways q h msg (λ (t : Lent Taken). Stays t.answer.receiver)
  unfolding opened_as_by whole_control_up_by acted_by access_up_as_by control_up_by admitted_by upgraded_by
  ways =
      record {
        refuses = λ n trials l f. written;
        access_whole = λ opener trials len left. written;
        control_whole = λ opcode. written;
        acknowledges = λ obo seq_zero bits. written;
        repeats = λ auth bits. written;
        stores = λ seg slot before g e. written;
        access_gathered = λ seg slot before g opener trials len left. written;
        control_gathered = λ seg slot before g. written;
        frees = λ seg slot before g f trials. written;
      }

  pub stays_taken : message_octets ≤ length msg → Stays (taken q h msg).answer.receiver
  stays_taken room = walk_taken q h msg room (λ (t : Lent Taken). Stays t.answer.receiver) ways

-- ---- a call
module _ (r : Receiver) (fwd msg : List ℕ) where
  fixed_passed : message_octets ≤ length msg → (h : Header) (trials : ℕ) → Fixed r (passed r h trials fwd msg).heard.receiver
  unfolding passed_by
  fixed_passed room h trials =
      let s = (stays_taken (caching r h) h msg room).0 in
      record { setup_stays = s.setup_stays; index_stays = s.index_stays; next_stays = s.next_stays }

  pub fixed_heard : (pdu : List ℕ) → Fixed r (hearing r pdu fwd msg).heard.receiver
  fixed_heard pdu =
      walk_hearing r fwd msg pdu (λ (o : Outcome). Fixed r o.heard.receiver) (λ _ _ _. record { setup_stays = refl; index_stays = refl; next_stays = refl })
      (λ h p. fixed_passed p.opened.big h _)
