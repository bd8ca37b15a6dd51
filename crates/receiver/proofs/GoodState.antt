-- `Good` is kept where one part of the state changes, if that part is: each field speaks of one part. Assumes nothing.
--   good_cache, good_replay, good_session, good_outgoing   the state with one part changed
--   good_caching                                           a PDU more in the cache
--   good_admitted, good_upgraded                           a message was accepted, or handed up
--   good_freed, good_opened                                a slot is zeroed, or holds a session that gathers
use mathlib.Core.Bool.{false, true≢false}
use mathlib.Core.List.{List}
use mathlib.Core.Path.{◌≡◌, refl, sym, subst, ◌∙◌}
use Prim.Native.Nat.{ℕ, ◌<◌}
use native.Mathlib.Omega.{arith}
use borrow.Author.Tests.{eqb-true, eqb-false}
use lib.Dec.{eqb}
use lib.ListN.{length, set, length-set}
use lib.Seq.{get_or-set_same, get_or-set_other}
use Rattle.common.specs.Lent.{Lent}
use Rattle.common.proofs.Tests.{by_test}
use Rattle.network.specs.declared.header.Header.{Header}
use Rattle.memory.specs.declared.cache.Cache.{Cache}
use Rattle.memory.specs.declared.outgoing.Outgoing.{Outgoing}
use Rattle.memory.specs.declared.replay.Entry.{Entry}
use Rattle.memory.specs.declared.session.Session.{Session}
use Rattle.memory.specs.Cache.{cache_entries}
use Rattle.memory.specs.Replay.{ReplayKept}
use Rattle.memory.specs.Session.{session_slots, no_session, session_at, session_key, is_free, SessionsApart}
use Rattle.memory.proofs.CacheLaws.{length_remembered}
use Rattle.memory.proofs.ReplayMap.{kept_accepted, kept_handed_up}
use Rattle.memory.proofs.SessionSlots.{apart_freed, apart_opened}
use Rattle.memory.proofs.Within.{Opens}
use Rattle.receiver.specs.declared.answer.Taken.{Taken}
use Rattle.receiver.specs.declared.state.Receiver.{Receiver}
use Rattle.receiver.specs.Good.{Gathering, Held, SessionsKept, Good}
use Rattle.receiver.specs.Segmented.{upgraded, upgraded_by}
use Rattle.receiver.specs.State.{with_cache, with_replay, with_session, with_outgoing}
use Rattle.receiver.specs.Whole.{pair_of, admitted, admitted_by}
use Rattle.receiver.proofs.Laws.Heard.{caching}

-- what taking a PDU leaves is good
abbrev pub Left : Lent Taken → Type 0
Left t = Good t.answer.receiver

-- a session is put into a slot
held_set : (l : List Session) → SessionsKept l → (slot : ℕ) (s : Session) → Held s → (i : ℕ) → i < session_slots → Held (session_at (set l slot s) i)
held_set l g slot s hs i h =
    let long = g.places in
    by_test (eqb i slot)
    (λ t. let e = eqb-true i slot t in
    let w : slot < length l = omega arith in
    subst (λ (j : ℕ). Held (session_at (set l slot s) j)) (sym e) (subst Held (sym (get_or-set_same l slot s _ w)) hs))
    (λ t. subst Held (sym (get_or-set_other l slot i s _ (eqb-false i slot t))) (g.each i h))

-- ---- the state with its parts changed
module _ (r : Receiver) (g : Good r) where
  changed :
      (cache : Cache) → length cache.entries ≡ cache_entries → (replay : List Entry) → ReplayKept replay → (sessions : List Session) → SessionsKept sessions
      → (out : Outgoing) → Good (record { node = r.node; next = r.next; cache = cache; replay = replay; sessions = sessions; out = out })
  changed cache ec replay er sessions es out =
      record { node_made = g.node_made; next_well = g.next_well; cache_places = ec; replay_kept = er; sessions_kept = es }

  pub good_cache : (c : Cache) → length c.entries ≡ cache_entries → Good (with_cache r c)
  good_cache c e = changed c e r.replay g.replay_kept r.sessions g.sessions_kept r.out

  pub good_caching : (h : Header) → Good (caching r h)
  good_caching h = good_cache (caching r h).cache (length_remembered r.cache h ∙ g.cache_places)

  pub good_outgoing : (out : Outgoing) → Good (with_outgoing r out)
  good_outgoing out = changed r.cache g.cache_places r.replay g.replay_kept r.sessions g.sessions_kept out

  pub good_replay : (l : List Entry) → ReplayKept l → Good (with_replay r l)
  good_replay l k = changed r.cache g.cache_places l k r.sessions g.sessions_kept r.out

  pub good_session : (slot : ℕ) (s : Session) → SessionsApart (set r.sessions slot s) → Held s → Good (with_session r slot s)
  good_session slot s a h =
      changed r.cache g.cache_places r.replay g.replay_kept (set r.sessions slot s)
      (record { places = length-set r.sessions slot s ∙ g.sessions_kept.places; apart = a; each = held_set r.sessions g.sessions_kept slot s h }) r.out

  -- ---- a message was accepted, or handed up
  pub good_admitted : (h : Header) → Good (admitted r h)
  unfolding admitted_by
  good_admitted h = good_replay _ (kept_accepted r.replay g.replay_kept h.src (pair_of h))

  pub good_upgraded : (s : Session) → Good (upgraded r s)
  unfolding upgraded_by
  good_upgraded s = good_replay _ (kept_handed_up r.replay g.replay_kept s.src _)

  -- ---- a slot is zeroed, or holds a session that gathers
  pub good_freed : (slot : ℕ) → Good (with_session r slot no_session)
  good_freed slot =
      good_session slot no_session (apart_freed r.sessions g.sessions_kept.places g.sessions_kept.apart slot)
      (record { free_zero = λ z. refl; gathers = λ z. absurd (true≢false z) })

  pub good_opened :
      (slot : ℕ) (s : Session) → Opens r.sessions (session_key s) slot → is_free s ≡ false → Gathering s → Good (with_session r slot s)
  good_opened slot s o z k =
      good_session slot s (apart_opened r.sessions g.sessions_kept.places g.sessions_kept.apart slot s o.own)
      (record { free_zero = λ e. absurd (true≢false (sym e ∙ z)); gathers = λ e. k })
