-- A scene as the receiver sees it: each speech at the stage that its arrivals so far make, all that is remembered belongs to the speakers, and what the cache has seen has come.
-- A fresh receiver is so, and every arrival keeps it so. Assumes nothing.
--   Scenery                    the receiver in the middle of a scene
--   begins                     a fresh one
--   entry_room, session_room   there is room in it
--   filled_within              only places to SegN are filled
use mathlib.Core.Bool.{true, false, false≢true}
use mathlib.Core.List.{List}
use mathlib.Core.Path.{◌≡◌, refl, sym, ap, ◌∙◌, subst}
use Prim.Native.Nat.{ℕ, ◌+◌, ◌^◌, ◌≤◌, ◌<◌}
use native.Mathlib.Omega.{arith}
use borrow.Author.Tests.{ne_eqb}
use lib.ListN.{length}
use lib.Pow.{pow_pos}
use Rattle.std.specs.Prelude.{Ok}
use Rattle.common.specs.Bits.{has_bit}
use Rattle.common.proofs.BitLaws.{all_bound}
use Rattle.network.specs.declared.header.Header.{Header}
use Rattle.network.proofs.AddressLaws.{unicast_some}
use Rattle.memory.specs.declared.replay.Entry.{Entry}
use Rattle.memory.specs.declared.session.SessionKey.{SessionKey}
use Rattle.memory.specs.Cache.{seen}
use Rattle.memory.specs.Replay.{no_entry, look_up, has_room}
use Rattle.memory.specs.Session.{session_slots, session_at, session_place, is_free, free_place}
use Rattle.memory.proofs.ReplayMap.{look_up_none, Listed, listed_none, room_left}
use Rattle.memory.proofs.SessionSlots.{place_none, SessionsOwned, owned_none, session_free}
use Rattle.node.specs.declared.addresses.Node.{Node}
use Rattle.node.specs.declared.setup.Setup.{Setup}
use Rattle.node.specs.Addresses.{is_local}
use Rattle.node.specs.Index.{SameFixed, SameIndex}
use Rattle.node.proofs.IndexLaws.{same_node}
use Rattle.receiver.specs.declared.state.Receiver.{Receiver}
use Rattle.receiver.specs.Fresh.{setting_up}
use Rattle.receiver.specs.Good.{Gathering, Good}
use Rattle.receiver.proofs.Good.{good_fresh}
use Rattle.receiver.proofs.Laws.Fresh.{fresh_is, fresh_unseen}
use Rattle.demands.specs.Interleaved.{speech_at, Spent, start, node_of}
use Rattle.demands.specs.Speech.{Speech, last_of, Speakable}
use Rattle.demands.proofs.SpeechSession.{session_of}
use Rattle.demands.proofs.StageLaws.{key_of, Stage, Silent, Gathers, Done, unheard_none}

-- ---- the scene
-- who speaks
abbrev pub speaker_of : List Speech → ℕ → ℕ
speaker_of speeches k = (speech_at speeches k).src

-- what their sessions are found by
abbrev pub speaker_key : List Speech → ℕ → SessionKey
speaker_key speeches k = key_of (speech_at speeches k)

-- of each speech these places are filled
pub record Scenery (node : Node) (speeches : List Speech) (spent : Spent) (r : Receiver) (filled : ℕ → ℕ) : Type 0 where
  pub good : Good r
  pub setup_same : SameFixed r.node node
  pub index_same : SameIndex r.node node
  -- who speaks is another node
  pub others : (k : ℕ) → k < length speeches → is_local node (speaker_of speeches k) ≡ false
  pub stages : (k : ℕ) → k < length speeches → Stage node (speech_at speeches k) r.replay r.sessions (filled k)
  pub sessions_owned : SessionsOwned (length speeches) (speaker_key speeches) r.sessions
  pub entries_listed : Listed (length speeches) (speaker_of speeches) r.replay
  pub seen_come :
      (k : ℕ) (h : Header) → k < length speeches → h.src ≡ speaker_of speeches k → seen r.cache h ≡ true → has_bit (filled k) (spent k h.seq) ≡ true

pub same_scene : {node : Node} {speeches : List Speech} {spent : Spent} {r : Receiver} {filled : ℕ → ℕ} → Scenery node speeches spent r filled → r.node ≡ node
same_scene {node} s = same_node _ node s.setup_same s.index_same

-- ---- a fresh receiver
module _ (setup : Setup) (ready : (setting_up setup).answer ≡ Ok tt) (speeches : List Speech) (spent : Spent)
    (speak : (k : ℕ) → k < length speeches → Speakable (node_of setup) (speech_at speeches k))
    (others : (k : ℕ) → k < length speeches → is_local (node_of setup) (speaker_of speeches k) ≡ false) where
  speaks : (k : ℕ) → k < length speeches → speaker_of speeches k ≡ 0 → ⊥
  speaks k h = unicast_some (speaker_of speeches k) (speak k h).from_unicast

  pub begins : Scenery (node_of setup) speeches spent (start setup) (λ _. 0)
  begins =
      record {
        good = good_fresh setup ready;
        setup_same = refl;
        index_same = refl;
        others = others;
        stages = λ k h.
            let none : look_up (start setup).replay (speaker_of speeches k) ≡ no_entry = rw (fresh_is setup) (look_up_none (speaker_of speeches k)) in
            Silent refl (rw (fresh_is setup) (place_none (speaker_key speeches k) (ne_eqb (speaker_of speeches k) 0 (speaks k h))))
            (unheard_none (node_of setup) (speech_at speeches k) _ none) (ap (λ (e : Entry). e.last.dst) none);
        sessions_owned = rw (fresh_is setup) (owned_none (length speeches) (speaker_key speeches));
        entries_listed = rw (fresh_is setup) (listed_none (length speeches) (speaker_of speeches));
        seen_come = λ k h w q e. absurd (false≢true (sym (fresh_unseen setup h (λ z. speaks k w (sym q ∙ z))) ∙ e));
      }

-- ---- there is room
module _ (node : Node) (speeches : List Speech) (spent : Spent) (r : Receiver) (filled : ℕ → ℕ) (s : Scenery node speeches spent r filled)
    (few : length speeches ≤ 8) where
  -- for an entry
  pub entry_room : (src : ℕ) → has_room r.replay src ≡ true
  entry_room = room_left (length speeches) (speaker_of speeches) r.replay s.entries_listed s.good.replay_kept (omega arith)

  -- for a session of a speaker that has none
  pub session_room :
      (k : ℕ) → k < length speeches → session_slots ≤ session_place r.sessions (speaker_key speeches k) → free_place r.sessions < session_slots
  session_room k h out =
      session_free (length speeches) (speaker_key speeches) r.sessions s.sessions_owned s.good.sessions_kept.places s.good.sessions_kept.apart k h out few

-- ---- only places to SegN are filled
module _ (node : Node) (speeches : List Speech) (spent : Spent) (r : Receiver) (filled : ℕ → ℕ) (sc : Scenery node speeches spent r filled) (k : ℕ)
    (w : Speakable node (speech_at speeches k)) where
  abbrev s : Speech
  s = speech_at speeches k

  within_by : Stage node s r.replay r.sessions (filled k) → filled k < 2 ^ (last_of node s + 1)
  within_by (Silent b p u n) = rw b (pow_pos (last_of node s + 1))
  within_by (Gathers len bytes z m own held h e) =
      let slot = session_place r.sessions (key_of s) in
      let spoken = ne_eqb s.src 0 (unicast_some s.src w.from_unicast) in
      let used : is_free (session_at r.sessions slot) ≡ false = ap is_free held ∙ spoken in
      let g : Gathering (session_of node s (filled k) len bytes) = subst Gathering held ((sc.good.sessions_kept.each slot own).gathers used) in
      g.filled_within
  within_by (Done b p e) = rw b (all_bound (last_of node s) (last_of node s + 1) (omega arith))

  pub filled_within : k < length speeches → filled k < 2 ^ (last_of node s + 1)
  filled_within hk = within_by (sc.stages k hk)
