-- Every arrival keeps the scene as it is to be seen, and is answered as it is to be. A PDU of a speech opens to its header; where the cache has it, its segment had come
-- before; else it is placed, and its place is filled. A PDU that no key opens, a request to acknowledge and what the receiver sends leave all that the scene is seen by. Assumes nothing.
--   Next               what an event is to do
--   event_next         each does
--   due_of, hands      what is due at an event is handed up
--   StoresAt, stores   a segment is stored
--   CountsAt, counts   how many keys are tried for it
use mathlib.Core.Bool.{true, false, false≢true}
use mathlib.Core.List.{List, [], ◌∷◌}
use mathlib.Core.Logic.{inr, ⊎_elim}
use mathlib.Core.Path.{◌≡◌, refl, sym, ap, ◌∙◌, subst}
use Prim.Native.Nat.{ℕ, ◌≤◌, ◌<◌}
use native.Mathlib.Omega.{arith}
use borrow.Author.Tests.{eq-eqb, eqb-true, eqb-false}
use lib.Dec.{eqb}
use lib.ListN.{length}
use Rattle.std.specs.Prelude.{if◌then◌else◌}
use Rattle.common.specs.Bits.{has_bit, with_bit, all_bits}
use Rattle.common.specs.Lent.{Lent}
use Rattle.common.proofs.BitLaws.{has_with_own, has_with_other, with_of_set}
use Rattle.common.proofs.Tests.{by_test}
use Rattle.network.specs.declared.header.Header.{Header}
use Rattle.network.specs.Candidates.{key_at}
use Rattle.network.specs.Opening.{opening}
use Rattle.network.specs.Sealing.{sealable}
use Rattle.network.proofs.AddressLaws.{unicast_some, allowed_some}
use Rattle.network.proofs.Sealed.{within}
use Rattle.network.proofs.SealOpen.{open_seal}
use Rattle.network.specs.Pdu.{pdu_octets}
use Rattle.transport.specs.Form.{form_of}
use Rattle.transport.specs.Segment.{message_octets}
use Rattle.memory.specs.declared.cache.Seen as cached
use Rattle.memory.specs.Cache.{seen, remembered}
use Rattle.memory.proofs.CacheLaws.{length_remembered, seen_or_new}
use Rattle.node.specs.declared.addresses.Node.{Node}
use Rattle.node.specs.Addresses.{is_local}
use Rattle.node.specs.Made.{WellMade}
use Rattle.node.proofs.IndexLaws.{local_fixed, for_fixed}
use Rattle.receiver.specs.declared.answer.Refusal.TheVariants as refusal
use Rattle.receiver.specs.declared.answer.Taken.{Taken}
use Rattle.receiver.specs.declared.state.Receiver.{Receiver}
use Rattle.receiver.specs.Hearing.{outcome, refused_heard, taken_as, hearing}
use Rattle.receiver.specs.Passing.{Opens}
use Rattle.receiver.specs.Segmented as segments
use Rattle.receiver.specs.State.{with_cache}
use Rattle.receiver.proofs.Good.{good_hear}
use Rattle.receiver.proofs.GoodState.{good_cache}
use Rattle.receiver.proofs.Laws.Fixed.{fixed_heard}
use Rattle.receiver.proofs.Laws.Heard.{heard_closed, heard_again, Leaves, heard_new}
use Rattle.demands.specs.Call.{Call, Hear, GiveUp, SendAccess, SendControl, SendSegment, Acknowledge, Stop, Heard, Outcome, message_for, left_heard, step}
use Rattle.demands.specs.Interleaved as scene
use Rattle.demands.specs.Interleaved.{Event, Segment, Foreign, Ask, Own, speech_at, call_as, come_with, is_last_missing}
use Rattle.demands.specs.Interleaved.{Spent, is_own, Comes, is_stored, handed, SegmentAnswered, ForeignAnswered, AnsweredAs}
use Rattle.demands.specs.Refusal.{no_key_opens}
use Rattle.demands.specs.Speech.{Speech, last_of, header_of, segment_pdu, Speakable, Handed, hand_up, network_place, application_place}
use Rattle.demands.proofs.AnsweredLaws.{had_come, same_answered, answered_hands, answered_stores}
use Rattle.demands.proofs.Invariant.{good_step}
use Rattle.demands.proofs.KeptLaws.{kept_said, kept_own, kept_scene, refilled}
use Rattle.demands.proofs.Refusal.{unopened, unopened_leaves}
use Rattle.demands.proofs.SceneLaws.{speaker_of, speaker_key, Scenery, same_scene, entry_room, session_room}
use Rattle.demands.proofs.SpeechCut.{last_low}
use Rattle.demands.proofs.SpeechSegment.{formed, segment_sealable, segment_taken, segment_placed}
use Rattle.demands.proofs.StageLaws.{segment_at, Stage}
use Rattle.demands.proofs.StepLaws.{left_taken, Step, placed_steps}

-- what was set stays set
has_with : (x i j : ℕ) → i < 32 → has_bit x j ≡ true → has_bit (with_bit x i) j ≡ true
has_with x i j low h =
    by_test (eqb j i)
    (λ t. let e = eqb-true j i t in rw e (has_with_own x i low))
    (λ t. has_with_other x i j (eqb-false j i t) ∙ h)

-- the buffer that a call of hearing is lent for forwarding
abbrev forward_of : Call → List ℕ
forward_of (Hear pdu fwd msg) = fwd
forward_of (GiveUp src) = []
forward_of (SendAccess q key szmic payload buf) = []
forward_of (SendControl q opcode parameters buf) = []
forward_of (SendSegment n buf) = []
forward_of (Acknowledge net src buf) = []
forward_of Stop = []

-- a call of the receiver's own hands up nothing
own_none : (r : Receiver) (c : Call) → is_own c ≡ true → handed (step r c) ≡ []
own_none r (Hear pdu fwd msg) own = absurd (false≢true own)
own_none r (GiveUp src) own = refl
own_none r (SendAccess q key szmic payload buf) own = refl
own_none r (SendControl q opcode parameters buf) own = refl
own_none r (SendSegment n buf) own = refl
own_none r (Acknowledge net src buf) own = refl
own_none r Stop own = refl

module _ (node : Node) (speeches : List Speech) (spent : Spent) where
  abbrev Seen : Receiver → (ℕ → ℕ) → Type 0
  Seen r filled = Scenery node speeches spent r filled

  pub record Next (r : Receiver) (filled : ℕ → ℕ) (e : Event) (c : Call) : Type 0 where
    pub answers : AnsweredAs node speeches filled r e (forward_of c) (message_for c) (step r c)
    pub scenery : Seen (step r c).receiver (λ k. come_with k (filled k) e)

  module _ (made : WellMade node) (few : length speeches ≤ 8) (speak : (k : ℕ) → k < length speeches → Speakable node (speech_at speeches k))
      (differ : (j k : ℕ) → j < length speeches → k < length speeches → speaker_of speeches j ≡ speaker_of speeches k → j ≡ k)
      (r : Receiver) (filled : ℕ → ℕ) (sc : Seen r filled) (fwd msg : List ℕ) (wide : pdu_octets ≤ length fwd) (big : message_octets ≤ length msg) where
    -- ---- a segment of a speech
    module _ (k i seq ttl : ℕ) (sent : scene.Sent node speeches spent k i seq ttl) where
      abbrev s : Speech
      s = speech_at speeches k

      abbrev h : Header
      h = header_of node s i seq ttl

      abbrev pdu : List ℕ
      pdu = segment_pdu node s i seq ttl

      abbrev q : Receiver
      q = with_cache r (remembered r.cache h)

      abbrev trials : ℕ
      trials = network_place node s

      abbrev t : Lent Taken
      t = segments.placed q h (segment_at node s i) msg

      w : Speakable node s
      w = speak k sent.one_of

      spoken_of : s.src ≡ 0 → ⊥
      spoken_of = unicast_some s.src w.from_unicast

      low : i < 32
      low = let l = last_low node s w in let m = sent.segment_there in omega arith

      can : sealable (key_at node.materials s.network) h ≡ true
      can = segment_sealable node s w i sent.segment_there seq ttl made sent.seq_fits sent.ttl_fits

      opened : Opens r pdu fwd msg trials h
      unfolding header_of
      opened =
          record {
            wide = wide;
            big = big;
            opens =
                rw (same_scene sc)
                (open_seal node.materials node.networks node.iv h can (formed node s w i sent.segment_there seq ttl) sent.own_key_first);
          }

      taken_is : taken_as (form_of h) q h msg ≡ t
      taken_is =
          segment_taken node s w i sent.segment_there seq ttl made q msg ∙ segment_placed node s w i sent.segment_there seq ttl q msg sent.in_time

      other : is_local r.node s.src ≡ false
      other = local_fixed r.node node sc.setup_same s.src ∙ sc.others k sent.one_of

      -- the cache has it: its segment had come
      again : seen r.cache h ≡ true → Next r filled (Segment k i seq ttl) (Hear pdu fwd msg)
      unfolding header_of
      again e =
          let there : has_bit (filled k) i ≡ true = rw sent.number_spent (sc.seen_come k h sent.one_of refl e) in
          let o : step r (Hear pdu fwd msg) ≡ left_heard (outcome (refused_heard r refusal.Cached trials) fwd msg) =
          ap left_heard (heard_again opened other e) in
          let more : (j : ℕ) → come_with j (filled j) (Segment k i seq ttl) ≡ filled j =
          λ j. by_test (eqb k j)
          (λ u. rw u (with_of_set (filled j) i (subst (λ (n : ℕ). has_bit (filled n) i ≡ true) (eqb-true k j u) there)))
          (λ u. rw u refl) in
          record {
            answers =
                had_come node s (filled k) i msg (step r (Hear pdu fwd msg)) there (inr (ap (λ (x : Outcome). x.answer) o)) (ap (λ (x : Outcome). x.message) o)
                (ap (λ (x : Outcome). x.tried) o);
            scenery = rw (ap (λ (x : Outcome). x.receiver) o) (refilled node speeches spent r filled _ more sc);
          }

      -- it is new: it is placed
      steps : Step node s q (filled k) i msg t
      unfolding header_of
      steps =
          let c = length_remembered r.cache h ∙ sc.good.cache_places in
          let dst = allowed_some h.ctl h.src h.dst (within (key_at node.materials s.network) h can).allowed in
          placed_steps node made s w spoken_of q sc.setup_same (good_cache r sc.good _ c) (filled k) i sent.segment_there msg dst big seq ttl
          (entry_room node speeches spent r filled sc few s.src) (session_room node speeches spent r filled sc few k sent.one_of) (sc.stages k sent.one_of)

      leaves : seen r.cache h ≡ false → Leaves r pdu fwd msg trials t
      unfolding header_of
      leaves e =
          let here = for_fixed r.node node sc.setup_same s.dst ∙ w.for_here in
          heard_new (record { opened = opened; other = other; new = e }) here t taken_is

      -- what the call answers is what placing it does
      answered_new : seen r.cache h ≡ false → SegmentAnswered node s (filled k) i msg (step r (Hear pdu fwd msg))
      answered_new e =
          let l = leaves e in
          let tried_counts : (step r (Hear pdu fwd msg)).tried ≡ record { network = trials; application = t.answer.trials } =
          ap (λ (n : ℕ). record { network = n; application = (hearing r pdu fwd msg).heard.application }) l.network_is
          ∙ ap (λ (n : ℕ). record { network = trials; application = n }) l.application_is in
          same_answered node s (filled k) i msg (left_taken node s t) (step r (Hear pdu fwd msg)) (ap Heard l.answers) l.message_is tried_counts steps.answers

      -- each speech's stage behind it
      more_stages :
          (j : ℕ) → j < length speeches
          → Stage node (speech_at speeches j) t.answer.receiver.replay t.answer.receiver.sessions (come_with j (filled j) (Segment k i seq ttl))
      more_stages j hj =
          by_test (eqb k j)
          (λ u.
          let e = eqb-true k j u in
          rw u (subst (λ (n : ℕ). Stage node (speech_at speeches n) t.answer.receiver.replay t.answer.receiver.sessions (with_bit (filled n) i)) e steps.own))
          (λ u.
          let n = eqb-false k j u in
          rw u (steps.others (speech_at speeches j) (filled j) (λ e. n (sym (differ j k hj sent.one_of e)))
          (unicast_some (speaker_of speeches j) (speak j hj).from_unicast) (sc.stages j hj)))

      -- what the cache has seen has come
      more_seen :
          (j : ℕ) (p : Header) → j < length speeches → p.src ≡ speaker_of speeches j → seen t.answer.receiver.cache p ≡ true
          → has_bit (come_with j (filled j) (Segment k i seq ttl)) (spent j p.seq) ≡ true
      unfolding header_of
      more_seen j p hj from e =
          let old : seen q.cache p ≡ true = rw (sym steps.cache_stays) e in
          ⊎_elim
          (λ was.
          let there = sc.seen_come j p hj from was in
          by_test (eqb k j) (λ u. rw u (has_with (filled j) i (spent j p.seq) low there)) (λ u. rw u there))
          (λ new.
          let here = differ j k hj sent.one_of (sym from ∙ ap (λ (x : cached.Seen). x.src) new) in
          let spends : spent j p.seq ≡ i =
          ap (λ (n : ℕ). spent n p.seq) here ∙ ap (λ (x : cached.Seen). spent k x.seq) new ∙ sym sent.number_spent in
          rw (eq-eqb k j (sym here), spends) (has_with_own (filled j) i low))
          (seen_or_new r.cache h sc.good.cache_places p old)

      placed_next : seen r.cache h ≡ false → Next r filled (Segment k i seq ttl) (Hear pdu fwd msg)
      placed_next e =
          let l = leaves e in
          let hears = good_hear r pdu fwd msg sc.good in
          let stays = fixed_heard r fwd msg pdu in
          record {
            answers = answered_new e;
            scenery =
                record {
                  good = hears;
                  setup_same = stays.setup_stays ∙ sc.setup_same;
                  index_same = stays.index_stays ∙ sc.index_same;
                  others = sc.others;
                  stages = rw l.left_is more_stages;
                  sessions_owned = rw l.left_is (steps.sessions_owned (length speeches) (speaker_key speeches) k sent.one_of refl sc.sessions_owned);
                  entries_listed = rw l.left_is (steps.entries_listed (length speeches) (speaker_of speeches) k sent.one_of refl sc.entries_listed);
                  seen_come = rw l.left_is more_seen;
                };
          }

      segment_next : Next r filled (Segment k i seq ttl) (Hear pdu fwd msg)
      segment_next = by_test (seen r.cache h) again placed_next

    -- ---- each event
    pub event_next : (e : Event) → Comes node speeches spent e → Next r filled e (call_as node speeches e fwd msg)
    event_next (Segment k i seq ttl) c = segment_next k i seq ttl c
    event_next (Foreign pdu) c =
        let none : no_key_opens (opening r.node.materials r.node.networks r.node.iv pdu).opened ≡ true = rw (same_scene sc) c in
        let x = heard_closed r fwd msg pdu wide big (unopened (opening r.node.materials r.node.networks r.node.iv pdu).opened none) in
        record {
          answers = subst (λ (z : Node). ForeignAnswered z r pdu fwd msg (step r (Hear pdu fwd msg))) (same_scene sc) (x.0, x.1, ap left_heard x.2);
          scenery = rw (unopened_leaves r pdu fwd msg none).receiver_stays sc;
        }
    event_next (Ask net src) c =
        record {
          answers = refl;
          scenery = kept_scene node speeches spent r _ filled (kept_said r (Acknowledge net src fwd) refl) (good_step r (Acknowledge net src fwd) sc.good) sc;
        }
    event_next (Own c) own =
        record {
          answers = own_none r c own;
          scenery = kept_scene node speeches spent r _ filled (kept_own r c own) (good_step r c sc.good) sc;
        }

-- ---- what is read off an answer
module _ (node : Node) (speeches : List Speech) (spent : Spent) where
  -- what is due at an event
  abbrev pub due_of : (ℕ → ℕ) → Event → List Handed
  due_of filled (Segment k i seq ttl) =
      if is_last_missing (filled k) i (last_of node (speech_at speeches k)) then hand_up node (speech_at speeches k) ∷ [] else
      []
  due_of filled (Foreign _) = []
  due_of filled (Ask net src) = []
  due_of filled (Own c) = []

  -- a segment that is new is stored where another is missing
  abbrev pub StoresAt : (ℕ → ℕ) → Event → Outcome → Type 0
  StoresAt filled (Segment k i seq ttl) o =
      has_bit (filled k) i ≡ false → eqb (with_bit (filled k) i) (all_bits (last_of node (speech_at speeches k))) ≡ false → is_stored o.answer ≡ true
  StoresAt filled (Foreign _) o = Unit {0}
  StoresAt filled (Ask net src) o = Unit {0}
  StoresAt filled (Own c) o = Unit {0}

  -- a segment's network key is tried at its place, and application keys where the message is handed up
  abbrev pub CountsAt : (ℕ → ℕ) → Event → Outcome → Type 0
  CountsAt filled (Segment k i seq ttl) o =
      let s = speech_at speeches k in
      o.tried
      ≡ record { network = network_place node s; application = if is_last_missing (filled k) i (last_of node s) then application_place node s s.words else 0 }
  CountsAt filled (Foreign _) o = Unit {0}
  CountsAt filled (Ask net src) o = Unit {0}
  CountsAt filled (Own c) o = Unit {0}

  module _ (r : Receiver) (filled : ℕ → ℕ) (c : Call) where
    hands_as : (e : Event) → Next node speeches spent r filled e c → handed (step r c) ≡ due_of filled e
    hands_as (Segment k i seq ttl) n = answered_hands node (speech_at speeches k) (filled k) i (message_for c) (step r c) n.answers
    hands_as (Foreign _) n = ap handed n.answers.2
    hands_as (Ask net src) n = n.answers
    hands_as (Own c) n = n.answers

    stores_as : (e : Event) → Next node speeches spent r filled e c → StoresAt filled e (step r c)
    stores_as (Segment k i seq ttl) n = answered_stores node (speech_at speeches k) (filled k) i (message_for c) (step r c) n.answers
    stores_as (Foreign _) n = tt {0}
    stores_as (Ask net src) n = tt {0}
    stores_as (Own c) n = tt {0}

    counts_as : (e : Event) → Next node speeches spent r filled e c → CountsAt filled e (step r c)
    counts_as (Segment k i seq ttl) n = n.answers.tried_is
    counts_as (Foreign _) n = tt {0}
    counts_as (Ask net src) n = tt {0}
    counts_as (Own c) n = tt {0}

module _ {node : Node} {speeches : List Speech} {spent : Spent} {r : Receiver} {filled : ℕ → ℕ} {e : Event} {c : Call} (n : Next node speeches spent r filled e c) where
  pub hands : handed (step r c) ≡ due_of node speeches spent filled e
  hands = hands_as node speeches spent r filled c e n

  pub stores : StoresAt node speeches spent filled e (step r c)
  stores = stores_as node speeches spent r filled c e n

  pub counts : CountsAt node speeches spent filled e (step r c)
  counts = counts_as node speeches spent r filled c e n
