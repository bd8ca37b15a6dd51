-- Demand 3. Follow the scene from arrival to arrival. Behind any list of them each speech stands at the stage that its
-- segments come so far make (`Scenery`): silent, gathering in a session, or done. A segment moves its own speech on and
-- leaves the others, since a slot or an entry of one source is never another's; there is always room, since eight
-- speakers need eight slots at most and 32 entries are more than eight. A PDU from the cache brings a segment that had
-- come; one that no key opens, a request to acknowledge, and what the receiver sends, move nothing. Now read off the
-- stage: a segment hands up the message exactly where it was the last that was missing, and an acknowledgement names the
-- places filled. Behind all of them every speech is done, so no session is open and each replay entry is the speech's
-- own, in whatever order they came, and no other source has one; the order in turn is one such. A speech that is done
-- stays so: one message each. Assumes nothing.
--   come_names      the bits name the segments that came
--   handed_up_law   1: where a message is handed up
--   answered        every answer
--   acknowledges    2: what an acknowledgement names, and when there is none
--   ends_alike      3: what is left at the end
use mathlib.Core.Bool.{true, false≢true}
use mathlib.Core.List.{List, [], ◌∷◌, ◌++◌}
use mathlib.Core.Logic.{◌⊎◌, ⊎_elim}
use mathlib.Core.Path.{◌≡◌, refl, sym, ap, ◌∙◌}
use Prim.Native.Nat.{ℕ, ◌≤◌, ◌<◌}
use native.Mathlib.Omega.{arith}
use lib.ListN.{length, length-replicate, get_or-replicate}
use lib.Seq.{ext_get_or}
use Rattle.common.specs.Bits.{has_bit, all_bits}
use Rattle.common.proofs.BitLaws.{has_none, all_of_bits}
use Rattle.common.proofs.Tests.{by_test}
use Rattle.memory.specs.Replay.{no_entry, look_up}
use Rattle.memory.specs.Session.{session_slots, no_session, no_sessions, session_at, session_place, is_free}
use Rattle.memory.proofs.ReplayMap.{listed_or_none}
use Rattle.memory.proofs.SessionSlots.{past, place_upto}
use Rattle.node.specs.declared.addresses.Node.{Node}
use Rattle.node.specs.declared.setup.Setup.{Setup}
use Rattle.node.specs.Made.{WellMade}
use Rattle.receiver.specs.declared.state.Receiver.{Receiver}
use Rattle.receiver.proofs.Good.{good_fresh}
use Rattle.demands.specs.Call.{step, run, after}
use Rattle.demands.specs.Interleaved.{Event, Segment, Foreign, Ask, Own, Arrival, start, node_of, speech_at, call_as, call_of, calls, come_with, come_from, come}
use Rattle.demands.specs.Interleaved.{ComeNames, Spent, Arrives, Each, Scene, AllCome, due_as, behind, HandedUp, AnsweredAs, Answered, Acknowledges, messages, turns, EndsAlike}
use Rattle.demands.specs.Speech.{Speech, last_of, Speakable, Handed, hand_up}
use Rattle.demands.proofs.AskLaws.{asked_names, asked_sent, asked_refuses}
use Rattle.demands.proofs.ArrivalLaws.{Next, event_next, due_of, hands}
use Rattle.demands.proofs.ComeLaws.{each_first, each_at, each_turn, come_from_law, come_in_turn}
use Rattle.demands.proofs.DueLaws.{due_with, due_behind, picked_due, once_due}
use Rattle.demands.proofs.SceneLaws.{speaker_of, speaker_key, Scenery, begins, filled_within}
use Rattle.demands.proofs.SpeechCut.{last_low}
use Rattle.demands.proofs.StageLaws.{none_all, entry_of, Stage, Silent, Gathers, Done}

-- ---- from arrival to arrival
module _ (node : Node) (made : WellMade node) (speeches : List Speech) (few : length speeches ≤ 8)
    (speak : (k : ℕ) → k < length speeches → Speakable node (speech_at speeches k))
    (differ : (j k : ℕ) → j < length speeches → k < length speeches → speaker_of speeches j ≡ speaker_of speeches k → j ≡ k) (spent : Spent) where
  abbrev Seen : Receiver → (ℕ → ℕ) → Type 0
  Seen r filled = Scenery node speeches spent r filled

  arrival_next : (r : Receiver) (filled : ℕ → ℕ) → Seen r filled → (a : Arrival) → Arrives node speeches spent a
      → Next node speeches spent r filled a.event (call_of node speeches a)
  arrival_next r filled sc a v =
      event_next node speeches spent made few speak differ r filled sc a.forward a.message v.room_forward v.room_message a.event v.comes

  seen_behind :
      (r : Receiver) (filled : ℕ → ℕ) → Seen r filled → (l : List Arrival) → Each (Arrives node speeches spent) l
      → Seen (after r (calls node speeches l)) (λ k. come_from k (filled k) l)
  seen_behind r filled sc [] e = sc
  seen_behind r filled sc (a ∷ l) e =
      let n = arrival_next r filled sc a e.0 in
      seen_behind (step r (call_of node speeches a)).receiver (λ k. come_with k (filled k) a.event) n.scenery l e.1

  -- ---- one message of each source
  module _ (k : ℕ) (hk : k < length speeches) where
    messages_are :
        (r : Receiver) (filled : ℕ → ℕ) → Seen r filled → (l : List Arrival) → Each (Arrives node speeches spent) l
        → messages (speaker_of speeches k) (run r (calls node speeches l)) ≡ due_behind node speeches k (filled k) l
    unfolding due_behind
    messages_are r filled sc [] e = refl
    messages_are r filled sc (a ∷ l) e =
        let n = arrival_next r filled sc a e.0 in
        rw (hands n, picked_due node speeches k spent hk differ filled a.event e.0.comes)
        (ap (λ (x : List Handed). due_with node speeches k (filled k) a.event ++ x)
        (messages_are (step r (call_of node speeches a)).receiver (λ j. come_with j (filled j) a.event) n.scenery l e.1))

  -- ---- behind all of them
  module _ (r : Receiver) (filled : ℕ → ℕ) (sc : Seen r filled) (k : ℕ) (hk : k < length speeches)
      (all : (i : ℕ) → i ≤ last_of node (speech_at speeches k) → has_bit (filled k) i ≡ true) where
    all_filled : filled k ≡ all_bits (last_of node (speech_at speeches k))
    all_filled =
        all_of_bits (last_of node (speech_at speeches k)) (filled k) (last_low node (speech_at speeches k) (speak k hk))
        (filled_within node speeches spent r filled sc k (speak k hk) hk) all

    record Over : Type 0 where
      filled_all : filled k ≡ all_bits (last_of node (speech_at speeches k))
      no_slot : session_slots ≤ session_place r.sessions (speaker_key speeches k)
      entry_is : look_up r.replay (speaker_of speeches k) ≡ entry_of node (speech_at speeches k)

    over_by : Stage node (speech_at speeches k) r.replay r.sessions (filled k) → Over
    over_by (Silent b p u n) = absurd (false≢true (sym (has_none 0) ∙ ap (λ (x : ℕ). has_bit x 0) (sym b) ∙ all 0 (omega arith)))
    -- a session that gathers misses a place
    over_by (Gathers len bytes z m p h q e) = absurd (m all_filled)
    over_by (Done b p e) = record { filled_all = b; no_slot = p; entry_is = e }

    over : Over
    over = over_by (sc.stages k hk)

  -- every slot is zeroed
  module _ (r : Receiver) (filled : ℕ → ℕ) (sc : Seen r filled)
      (out : (k : ℕ) → k < length speeches → session_slots ≤ session_place r.sessions (speaker_key speeches k)) where
    slot_zero : (i : ℕ) → i < session_slots → session_at r.sessions i ≡ no_session
    slot_zero i h =
        (sc.good.sessions_kept.each i h).free_zero
        (by_test (is_free (session_at r.sessions i)) (λ t. t)
        (λ t.
        let o = sc.sessions_owned.owned i h t in
        let k = sc.sessions_owned.owner i in
        let u = place_upto r.sessions (speaker_key speeches k) i o.1 in
        let f = out k o.0 in
        absurd (omega arith)))

    no_sessions_law : r.sessions ≡ no_sessions
    no_sessions_law =
        let long = sc.good.sessions_kept.places in
        ext_get_or past r.sessions no_sessions (long ∙ sym (length-replicate session_slots no_session))
        (λ i h. let w : i < session_slots = omega arith in slot_zero i w ∙ sym (get_or-replicate session_slots i no_session past w))

-- ---- the bits name the segments that came
pub come_names : ComeNames
come_names k i l h = come_from_law k i 0 l h ∙ rw (has_none i) refl

-- ---- the three conclusions
module _ (setup : Setup) (speeches : List Speech) where
  abbrev node : Node
  node = node_of setup

  module _ (l : List Arrival) (c : Scene setup speeches l) where
    well : WellMade node
    well = (good_fresh setup c.ready).node_made

    seen : Scenery node speeches c.spent (behind setup speeches l) (λ k. come k l)
    seen =
        seen_behind node well speeches c.eight_at_most c.speakable c.sources_differ c.spent (start setup) (λ _. 0)
        (begins setup c.ready speeches c.spent c.speakable c.others) l c.arrives

    -- a source is a speaker, or it has no entry
    listed_in : (src : ℕ) → (src ≡ 0 → ⊥) → ((m : ℕ) × (m < length speeches) × (src ≡ speaker_of speeches m)) ⊎ (look_up (behind setup speeches l).replay src ≡ no_entry)
    listed_in = listed_or_none (length speeches) (speaker_of speeches) (behind setup speeches l).replay seen.entries_listed

    module _ (all : AllCome setup speeches l) (k : ℕ) (hk : k < length speeches) where
      ended : Over node well speeches c.eight_at_most c.speakable c.sources_differ c.spent (behind setup speeches l) (λ k. come k l) seen k hk (λ i. all k i hk)
      ended = over node well speeches c.eight_at_most c.speakable c.sources_differ c.spent (behind setup speeches l) (λ k. come k l) seen k hk (λ i. all k i hk)

      one_message : messages (speaker_of speeches k) (run (start setup) (calls node speeches l)) ≡ hand_up node (speech_at speeches k) ∷ []
      one_message =
          let m = messages_are node well speeches c.eight_at_most c.speakable c.sources_differ c.spent k hk (start setup) (λ _. 0)
          (begins setup c.ready speeches c.spent c.speakable c.others) l c.arrives in
          m ∙ once_due node speeches k c.spent hk c.speakable 0 (none_all (last_of node (speech_at speeches k))) l c.arrives ended.filled_all

-- the buffers of an event are its call's
answers_as :
    (node : Node) (speeches : List Speech) (spent : Spent) (r : Receiver) (filled : ℕ → ℕ) (e : Event) (fwd msg : List ℕ)
    → Next node speeches spent r filled e (call_as node speeches e fwd msg) → AnsweredAs node speeches filled r e fwd msg (step r (call_as node speeches e fwd msg))
answers_as _ speeches spent r filled (Segment k i seq ttl) fwd msg n = n.answers
answers_as _ speeches spent r filled (Foreign pdu) fwd msg n = n.answers
answers_as _ speeches spent r filled (Ask net src) fwd msg n = n.answers
answers_as _ speeches spent r filled (Own c) fwd msg n = n.answers

-- what is due behind a list of arrivals
arrival_hands :
    (node : Node) (speeches : List Speech) (spent : Spent) (before : List Arrival) (e : Event) {x : List Handed}
    → x ≡ due_of node speeches spent (λ k. come k before) e → x ≡ due_as node speeches before e
arrival_hands _ speeches spent before (Segment k i seq ttl) h = h
arrival_hands _ speeches spent before (Foreign pdu) h = h
arrival_hands _ speeches spent before (Ask net src) h = h
arrival_hands _ speeches spent before (Own c) h = h

-- the same speakers, and other arrivals
abbrev with_arrivals :
    {setup : Setup} {speeches : List Speech} {l : List Arrival} (c : Scene setup speeches l) (m : List Arrival) → Each (Arrives (node_of setup) speeches c.spent) m
    → Scene setup speeches m
with_arrivals c m e =
    record {
      ready = c.ready;
      eight_at_most = c.eight_at_most;
      speakable = c.speakable;
      sources_differ = c.sources_differ;
      others = c.others;
      spent = c.spent;
      arrives = e;
    }

module _ (setup : Setup) (speeches : List Speech) (before : List Arrival) (a : Arrival) (later : List Arrival) (c : Scene setup speeches (before ++ a ∷ later)) where
  -- the scene so far
  abbrev before_scene : Scene setup speeches before
  before_scene = with_arrivals c before (each_first (Arrives (node_of setup) speeches c.spent) before (a ∷ later) c.arrives)

  pub seen_before : Scenery (node_of setup) speeches c.spent (behind setup speeches before) (λ k. come k before)
  seen_before = seen setup speeches before before_scene

  here : Arrives (node_of setup) speeches c.spent a
  here = each_at (Arrives (node_of setup) speeches c.spent) before a later c.arrives

  -- what the arrival does there
  next : Next (node_of setup) speeches c.spent (behind setup speeches before) (λ k. come k before) a.event (call_of (node_of setup) speeches a)
  next =
      arrival_next (node_of setup) (well setup speeches before before_scene) speeches c.eight_at_most c.speakable c.sources_differ c.spent
      (behind setup speeches before) (λ k. come k before) seen_before a here

pub handed_up_law : HandedUp
handed_up_law setup speeches before a later c =
    arrival_hands (node_of setup) speeches c.spent before a.event (hands (next setup speeches before a later c))

pub answered : Answered
answered setup speeches before a later c =
    answers_as (node_of setup) speeches c.spent (behind setup speeches before) (λ k. come k before) a.event a.forward a.message
    (next setup speeches before a later c)

pub acknowledges : Acknowledges
acknowledges setup speeches before net src fwd msg later c =
    let node = node_of setup in
    let r = behind setup speeches before in
    let a : Arrival = record { event = Ask net src; forward = fwd; message = msg } in
    let wide = (here setup speeches before a later c).room_forward in
    let sc = seen_before setup speeches before a later c in
    let made = well setup speeches before (before_scene setup speeches before a later c) in
    record {
      names = asked_names node made speeches c.speakable c.spent before r sc net src fwd wide;
      goes_out = asked_sent node made speeches c.speakable c.spent before r sc net src fwd wide;
      refuses = asked_refuses node made speeches c.speakable c.spent before r sc net src fwd wide;
    }

-- the scene in turn is a scene, and all come in it
in_turn_law : (setup : Setup) (speeches : List Speech) (l : List Arrival) → Scene setup speeches l → Scene setup speeches (turns speeches l)
in_turn_law setup speeches l c = with_arrivals c (turns speeches l) (each_turn (Arrives (node_of setup) speeches c.spent) (length speeches) l c.arrives)

pub ends_alike : EndsAlike
ends_alike setup speeches l c all =
    let d = in_turn_law setup speeches l c in
    let all-turn : AllCome setup speeches (turns speeches l) = λ k i hk hi. rw (come_in_turn k 0 (length speeches) l hk) (all k i hk hi) in
    let sc = seen setup speeches l c in
    record {
      no_session_law =
          no_sessions_law (node_of setup) (well setup speeches l c) speeches c.eight_at_most c.speakable c.sources_differ c.spent
          (behind setup speeches l) (λ k. come k l) sc (λ k hk. (ended setup speeches l c all k hk).no_slot);
      entries_are = λ k hk. (ended setup speeches l c all k hk).entry_is;
      entries_none = λ src z other. ⊎_elim (λ m. absurd (other m.0 m.1 m.2)) (λ e. e) (listed_in setup speeches l c src z);
      entries_alike = λ src z.
          let both : (m : ℕ) × (m < length speeches) × (src ≡ speaker_of speeches m)
          → look_up (behind setup speeches l).replay src ≡ look_up (behind setup speeches (turns speeches l)).replay src =
          λ m. rw m.2 ((ended setup speeches l c all m.0 m.1).entry_is ∙ sym (ended setup speeches (turns speeches l) d all-turn m.0 m.1).entry_is) in
          ⊎_elim both (λ e. ⊎_elim both (λ f. e ∙ sym f) (listed_in setup speeches (turns speeches l) d src z)) (listed_in setup speeches l c src z);
      once = λ k hk. one_message setup speeches l c all k hk;
      once_in_turn = λ k hk. one_message setup speeches (turns speeches l) d all-turn k hk;
    }
