-- `GoodFresh`, `GoodHear` and `GoodGiveUp`: what setup makes is good; hearing leaves the receiver as it was, or with one PDU more in the cache and what its way there leaves: a
-- replay entry raised, a slot zeroed, a session that gathers on in its source's slot; giving up zeroes a slot. Assumes nothing.
use mathlib.Core.Bool.{true, false, true≢false}
use mathlib.Core.List.{List}
use mathlib.Core.Logic.{⊎_elim}
use mathlib.Core.Path.{◌≡◌, sym, ap, ◌∙◌, subst}
use Prim.Native.Nat.{ℕ, ◌≤◌, ◌<◌}
use native.Mathlib.Omega.{arith}
use borrow.Author.Tests.{ne_eqb}
use lib.ListN.{length-replicate, get_or-replicate}
use Rattle.network.specs.declared.header.Header.{Header}
use Rattle.network.proofs.AddressLaws.{unicast_some}
use Rattle.memory.specs.declared.session.Segment.{Segment}
use Rattle.memory.specs.declared.session.Session.{Session}
use Rattle.memory.specs.declared.session.SessionKey.{SessionKey}
use Rattle.memory.specs.Cache.{cache_entries, no_seen}
use Rattle.memory.specs.Session.{session_slots, no_session, no_sessions, session_at, session_key, segment_key, no_key, is_free, begun, stored, complete}
use Rattle.memory.proofs.ReplayMap.{kept_none}
use Rattle.memory.proofs.Within.{same_last, Opens}
use Rattle.node.specs.declared.addresses.Node.{Node}
use Rattle.node.specs.Made.{WellMade, NextWell}
use Rattle.node.proofs.SetupLaws.{makes_well}
use Rattle.receiver.specs.declared.give_up.GivenUp.{GivenUp}
use Rattle.receiver.specs.declared.state.Receiver.{Receiver}
use Rattle.receiver.specs.Fresh.{fresh}
use Rattle.receiver.specs.Good.{Gathering, Good, GoodFresh, GoodHear, GoodGiveUp}
use Rattle.receiver.specs.Segmented.{access_up_as_by, control_up_by}
use Rattle.receiver.specs.State.{with_session}
use Rattle.receiver.specs.Whole.{admitted, opened_as_by, whole_control_up_by, acted_by}
use Rattle.receiver.proofs.Gathered.{gathering_begun, gathering_stored}
use Rattle.receiver.proofs.GoodState.{Left, good_caching, good_outgoing, good_admitted, good_upgraded, good_freed, good_opened}
use Rattle.receiver.proofs.Laws.Fresh.{made, ready_made, fresh_is}
use Rattle.receiver.proofs.Laws.GiveUp.{by_giving_up}
use Rattle.receiver.proofs.Laws.Heard.{caching}
use Rattle.receiver.proofs.Laws.Ways.{Goes, goes_opens, goes_key, Ways, walk_left}
use Rattle.receiver.proofs.Opened.{Clear, opens_clear}

-- ---- setup
good_fresh_of : (node : Node) (next : List ℕ) → WellMade node → NextWell node.elements next → Good (fresh node next)
good_fresh_of node next w n =
    let session : (i : ℕ) → i < session_slots → session_at no_sessions i ≡ no_session = λ i h. get_or-replicate session_slots i no_session _ h in
    let none : (i : ℕ) → i < session_slots → is_free (session_at no_sessions i) ≡ true = λ i h. ap is_free (session i h) in
    record {
      node_made = w;
      next_well = n;
      cache_places = length-replicate cache_entries no_seen;
      replay_kept = kept_none;
      sessions_kept =
          record {
            places = length-replicate session_slots no_session;
            apart = λ i j hi hj z e. absurd (true≢false (sym (none i hi) ∙ z));
            each = λ i h. record { free_zero = λ z. session i h; gathers = λ z. absurd (true≢false (sym (none i h) ∙ z)) };
          };
    }

pub good_fresh : GoodFresh
good_fresh s e = let w = makes_well s (made s) (ready_made s e) in rw (fresh_is s) (good_fresh_of (made s).node (made s).next w.0 w.1)

-- ---- hearing
module _ (q : Receiver) (g : Good q) (h : Header) (c : Clear h) where
  -- the session that a segment goes to gathers, and is found by its key
  record Sits (seg : Segment) (s : Session) : Type 0 where
    gathers : Gathering s
    key_is : session_key s ≡ segment_key h.src seg
    used : is_free s ≡ false
    within : seg.sego ≤ s.terms.segn

  sits : (seg : Segment) (slot : ℕ) (s : Session) → Goes q h seg slot s → Sits seg s
  unfolding begun
  sits seg slot s k =
      let o = k.seg_o_most in
      let key = goes_key g.sessions_kept.places k in
      let used : is_free s ≡ false = ap no_key key ∙ ne_eqb h.src 0 (unicast_some h.src c.unicast) in
      ⊎_elim
      (λ j.
      let n = same_last (session_at q.sessions slot).terms seg.terms j.0.same in
      let kept = (g.sessions_kept.each slot j.0.within).gathers (rw (← j.1) used) in
      record { gathers = rw j.1 kept; key_is = key; used = used; within = rw j.1 (omega arith) })
      (λ j. record { gathers = rw j.1 (gathering_begun h.src seg k.seg_n_fits); key_is = key; used = used; within = rw j.1 o })
      k.stands

  good_stored :
      (seg : Segment) (slot : ℕ) (s : Session) → Goes q h seg slot s
      → (let n = stored s h seg.sego in complete n ≡ false → Good (with_session q slot n))
  unfolding stored
  good_stored seg slot s k t =
      let f = sits seg slot s k in
      good_opened q g slot (stored s h seg.sego) (subst (λ (a : SessionKey). Opens q.sessions a slot) (sym f.key_is) (goes_opens k)) f.used
      (gathering_stored s h seg.sego f.gathers c.places f.within t)

  ways : (msg : List ℕ) → Ways q h msg Left
  unfolding opened_as_by whole_control_up_by acted_by access_up_as_by control_up_by
  ways msg =
      record {
        refuses = λ n trials l f. g;
        access_whole = λ opener trials len left. good_admitted q g h;
        control_whole = λ opcode. good_admitted q g h;
        acknowledges = λ obo seq_zero bits. good_outgoing (admitted q h) (good_admitted q g h) _;
        repeats = λ auth bits. g;
        stores = good_stored;
        access_gathered = λ seg slot before k opener trials len left. good_upgraded (with_session q slot no_session) (good_freed q g slot) _;
        control_gathered = λ seg slot before k. good_upgraded (with_session q slot no_session) (good_freed q g slot) _;
        frees = λ seg slot before k f trials. good_freed q g slot;
      }

pub good_hear : GoodHear
good_hear r pdu fwd msg g =
    walk_left r pdu fwd msg Good g (λ h p. ways (caching r h) (good_caching r g h) h (opens_clear p.opened) msg)

-- ---- giving up
pub good_give_up : GoodGiveUp
good_give_up r src g = by_giving_up (λ (t : GivenUp). Good t.receiver) r src g (λ slot _. good_freed r g slot)
