-- Whom a receiver lists. Hearing gives an entry of the cache or of the replay list, or a session, to the SRC of a PDU that passes, and to no other. So what holds of these, and of 0, which
-- marks an empty place, holds of each that is listed. Assumes nothing.
--   Sources, Lists   it holds of the SRC of every entry and of every session
--   lists_fresh      so it is after setup
--   lists_freed      where a slot is freed
--   lists_heard      and after hearing
use mathlib.Core.List.{List}
use mathlib.Core.Logic.{⊎_elim}
use mathlib.Core.Path.{sym, subst}
use Prim.Native.Nat.{ℕ}
use lib.ListN.{get_or}
use Rattle.common.specs.Lent.{Lent}
use Rattle.network.specs.declared.header.Header.{Header}
use Rattle.memory.specs.declared.cache.Cache.{Cache}
use Rattle.memory.specs.declared.cache.Seen.{Seen}
use Rattle.memory.specs.declared.replay.Entry.{Entry}
use Rattle.memory.specs.declared.session.Segment.{Segment}
use Rattle.memory.specs.declared.session.Session.{Session}
use Rattle.memory.specs.Cache.{cache_entries, no_seen}
use Rattle.memory.specs.Replay.{replay_entries, no_entry}
use Rattle.memory.specs.Session.{session_slots, no_session, session_at, begun, stored}
use Rattle.memory.proofs.CacheLaws.{each_remembered}
use Rattle.memory.proofs.Keyed.{each_replicate, each_set}
use Rattle.memory.proofs.ReplayMap.{each_accepted, each_handed_up}
use Rattle.memory.proofs.SessionSlots.{past}
use Rattle.node.specs.declared.addresses.Node.{Node}
use Rattle.receiver.specs.declared.answer.Taken.{Taken}
use Rattle.receiver.specs.declared.state.Receiver.{Receiver}
use Rattle.receiver.specs.Fresh.{fresh}
use Rattle.receiver.specs.Hearing.{hearing}
use Rattle.receiver.specs.Segmented.{upgraded, upgraded_by, access_up_as_by, control_up_by}
use Rattle.receiver.specs.State.{with_session}
use Rattle.receiver.specs.Whole.{admitted, admitted_by, opened_as_by, whole_control_up_by, acted_by}
use Rattle.receiver.proofs.Laws.Heard.{caching, PassesSo}
use Rattle.receiver.proofs.Laws.Ways.{Goes, Ways, walk_left}

-- of these
pub record Sources (P : ℕ → Type 0) (cache : Cache) (replay : List Entry) (sessions : List Session) : Type 0 where
  pub cached : (i : ℕ) → P (get_or cache.entries i no_seen).src
  pub entries : (i : ℕ) → P (get_or replay i no_entry).src
  pub held : (i : ℕ) → P (session_at sessions i).src

-- of a receiver's
abbrev pub Lists : (ℕ → Type 0) → Receiver → Type 0
Lists P r = Sources P r.cache r.replay r.sessions

module _ (P : ℕ → Type 0) (none : P 0) where
  pub lists_fresh : (node : Node) (next : List ℕ) → Lists P (fresh node next)
  lists_fresh node next =
      record {
        cached = each_replicate (λ (e : Seen). P e.src) no_seen cache_entries no_seen none none;
        entries = each_replicate (λ (e : Entry). P e.src) no_entry replay_entries no_entry none none;
        held = each_replicate (λ (s : Session). P s.src) past session_slots no_session none none;
      }

  lists_set : (r : Receiver) → Lists P r → (slot : ℕ) (s : Session) → P s.src → Lists P (with_session r slot s)
  lists_set r l slot s p = record { cached = l.cached; entries = l.entries; held = each_set (λ (x : Session). P x.src) past r.sessions slot s p l.held }

  pub lists_freed : (r : Receiver) → Lists P r → (slot : ℕ) → Lists P (with_session r slot no_session)
  lists_freed r l slot = lists_set r l slot no_session none

  module _ (q : Receiver) (l : Lists P q) (h : Header) (new : P h.src) where
    -- a whole message is accepted
    accepts : Lists P (admitted q h)
    unfolding admitted_by
    accepts = record { cached = l.cached; entries = each_accepted P q.replay l.entries h.src _ new; held = l.held }

    module _ (seg : Segment) (slot : ℕ) (before : Session) (g : Goes q h seg slot before) where
      -- a segment goes to a session that is there, or to one begun for its source
      its_source : P (stored before h seg.sego).src
      unfolding begun stored
      its_source =
          ⊎_elim (λ j. subst (λ (s : Session). P s.src) (sym j.1) (l.held slot)) (λ j. subst (λ (s : Session). P s.src) (sym j.1) new) g.stands

      hands_up : Lists P (upgraded (with_session q slot no_session) (stored before h seg.sego))
      unfolding upgraded_by
      hands_up =
          record { cached = l.cached; entries = each_handed_up P q.replay l.entries _ _ its_source; held = (lists_freed q l slot).held }

    ways : (msg : List ℕ) → Ways q h msg (λ (t : Lent Taken). Lists P t.answer.receiver)
    unfolding opened_as_by whole_control_up_by acted_by access_up_as_by control_up_by
    ways msg =
        record {
          refuses = λ n trials late f. l;
          access_whole = λ opener trials len left. accepts;
          control_whole = λ opcode. accepts;
          acknowledges = λ obo seq_zero bits. accepts;
          repeats = λ auth bits. l;
          stores = λ seg slot before g e. lists_set q l slot _ (its_source seg slot before g);
          access_gathered = λ seg slot before g opener trials len left. hands_up seg slot before g;
          control_gathered = hands_up;
          frees = λ seg slot before g f trials. lists_freed q l slot;
        }

  pub lists_heard :
      (r : Receiver) → Lists P r → (pdu fwd msg : List ℕ) → ((h : Header) → PassesSo r fwd msg pdu h → P h.src)
      → Lists P (hearing r pdu fwd msg).heard.receiver
  lists_heard r l pdu fwd msg new =
      walk_left r pdu fwd msg (Lists P) l
      (λ h p.
      let cached = each_remembered r.cache h P (new h p) l.cached in
      ways (caching r h) (record { cached = cached; entries = l.entries; held = l.held }) h (new h p) msg)
