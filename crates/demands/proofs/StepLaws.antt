-- What a segment of a speech does to a receiver, at each stage of that speech: it hands up the message where it was the last that was missing, is stored where another is, and repeats
-- where it had come; its place is filled; what belongs to other speakers stays. Assumes nothing.
--   left_taken     what a call leaves that takes it
--   Step           what a segment is to do
--   placed_steps   it does
use mathlib.Core.Bool.{true, false, true≢false}
use mathlib.Core.List.{List, []}
use mathlib.Core.Logic.{inl}
use mathlib.Core.Path.{◌≡◌, refl, sym, ap, ◌∙◌, subst}
use Prim.Native.Nat.{ℕ, ◌≤◌, ◌<◌}
use native.Mathlib.Omega.{arith}
use borrow.Author.Tests.{ne_eqb, eqb-true, eqb-false}
use lib.Dec.{eqb}
use lib.ListN.{length, set, replicate}
use Rattle.std.specs.Prelude.{Ok}
use Rattle.common.specs.Bits.{has_bit, with_bit, all_bits}
use Rattle.common.specs.Lent.{Lent, lent}
use Rattle.common.specs.Lists.{onto}
use Rattle.common.proofs.BitLaws.{has_none, has_all, has_with_own, with_of_set}
use Rattle.common.proofs.Tests.{by_test}
use Rattle.network.specs.declared.header.Header.{Header}
use Rattle.transport.specs.Segment.{message_octets}
use Rattle.memory.specs.declared.replay.Entry.{Entry}
use Rattle.memory.specs.declared.session.Session.{Session}
use Rattle.memory.specs.declared.session.SessionKey.{SessionKey}
use Rattle.memory.specs.Replay.{has_room, handed_up}
use Rattle.memory.specs.Session.{session_slots, no_session, session_at, session_key, no_key, session_place, is_free, free_place, begun, stored}
use Rattle.memory.proofs.ReplayMap.{look_up_handed_up_new, look_up_handed_up_other, Listed, listed_handed_up}
use Rattle.memory.proofs.SessionSlots.{session_key_law, place_upto, free_slot, place_set_own, session_set_own, freed_none, SessionsOwned, owned_set}
use Rattle.memory.proofs.Stored.{begun_is}
use Rattle.node.specs.declared.addresses.Node.{Node}
use Rattle.node.specs.Index.{SameFixed}
use Rattle.node.specs.Made.{WellMade}
use Rattle.receiver.specs.declared.answer.Answer.TheVariants.{Stored, Repeated}
use Rattle.receiver.specs.declared.answer.Taken.{Taken}
use Rattle.receiver.specs.declared.state.Receiver.{Receiver}
use Rattle.receiver.specs.Good.{Good}
use Rattle.receiver.specs.Segmented as segments
use Rattle.receiver.specs.State.{with_replay, with_session}
use Rattle.receiver.proofs.Laws.Segment.{placed_last, placed_repeat, placed_join, placed_open, gathered_stored, gathered_up, upgraded_is}
use Rattle.demands.specs.Call.{Heard, Outcome}
use Rattle.demands.specs.Interleaved.{SegmentAnswered}
use Rattle.demands.specs.Speech.{Speech, last_of, header_of, Speakable, hand_up, network_place, application_place}
use Rattle.demands.proofs.AnsweredLaws.{had_come, is_stored_law, is_up}
use Rattle.demands.proofs.GatherLaws.{Holds, holds_begun, segment_stored, new_len, new_bytes, holds_more, holds_all}
use Rattle.demands.proofs.SpeechCut.{last_low}
use Rattle.demands.proofs.SpeechSession.{session_of, session_up}
use Rattle.demands.proofs.StageLaws.{whole_of, segment_at, key_of, Unheard, Stage, Silent, Gathers, Done, stage_other}

-- what a call leaves that took t, its network key tried at its place, and forwards nothing
abbrev pub left_taken : Node → Speech → Lent Taken → Outcome
left_taken node s t =
    record {
      receiver = t.answer.receiver;
      answer = Heard t.answer.answer;
      pdu = [];
      message = t.buffer;
      made = false;
      octets = 0;
      tried = record { network = network_place node s; application = t.answer.trials };
    }

-- what was taken in r is t: a segment of s, of which these places were filled
pub record Step (node : Node) (s : Speech) (r : Receiver) (bits i : ℕ) (msg : List ℕ) (t : Lent Taken) : Type 0 where
  -- it is answered as a segment of these
  pub answers : SegmentAnswered node s bits i msg (left_taken node s t)
  -- its place is filled
  pub own : Stage node s t.answer.receiver.replay t.answer.receiver.sessions (with_bit bits i)
  -- another source's stage stays
  pub others :
      (o : Speech) (b : ℕ) → (o.src ≡ s.src → ⊥) → (o.src ≡ 0 → ⊥) → Stage node o r.replay r.sessions b
      → Stage node o t.answer.receiver.replay t.answer.receiver.sessions b
  -- sessions and entries are the speakers'
  pub sessions_owned :
      (n : ℕ) (speaker : ℕ → SessionKey) (k : ℕ) → k < n → key_of s ≡ speaker k → SessionsOwned n speaker r.sessions
      → SessionsOwned n speaker t.answer.receiver.sessions
  pub entries_listed :
      (n : ℕ) (speaker : ℕ → ℕ) (k : ℕ) → k < n → s.src ≡ speaker k → Listed n speaker r.replay → Listed n speaker t.answer.receiver.replay
  pub cache_stays : t.answer.receiver.cache ≡ r.cache

module _ (node : Node) (made : WellMade node) (s : Speech) (w : Speakable node s) (spoken : s.src ≡ 0 → ⊥) where
  module _ (r : Receiver) (same : SameFixed r.node node) (g : Good r) (bits i : ℕ) (there : i ≤ last_of node s) (msg : List ℕ) where
    low : i < 32
    low = let l = last_low node s w in omega arith

    -- ---- a repeat
    again : has_bit bits i ≡ true → Stage node s r.replay r.sessions bits
        → Step node s r bits i msg (lent (record { answer = Ok (Repeated s.src s.auth bits); trials = 0; receiver = r }) msg)
    again b st =
        record {
          answers = had_come node s bits i msg _ b (inl refl) refl refl;
          own = rw (with_of_set bits i b) st;
          others = λ o n _ _ k. k;
          sessions_owned = λ n f k h q o. o;
          entries_listed = λ n f k h q o. o;
          cache_stays = refl;
        }

    -- ---- a segment more, in a slot that is the source's, or free where the source has none
    module _ (fresh : has_bit bits i ≡ false) (unheard : Unheard node s r.replay) (room : has_room r.replay s.src ≡ true)
        (slot : ℕ) (within : slot < session_slots) (before : slot ≤ session_place r.sessions (key_of s))
        (only : (j : ℕ) → j < session_slots → session_key (session_at r.sessions j) ≡ key_of s → j ≡ slot)
        (stood : (a : SessionKey) → (a ≡ key_of s → ⊥) → no_key a ≡ false → a ≡ session_key (session_at r.sessions slot) → ⊥)
        (len : ℕ) (bytes : List ℕ) (holds : Holds node s (with_bit bits i) len bytes) where
      abbrev filled : ℕ
      filled = with_bit bits i

      abbrev session : Session
      session = session_of node s filled len bytes

      long : length r.sessions ≡ session_slots
      long = g.sessions_kept.places

      some : filled ≡ 0 → ⊥
      some e = true≢false (sym (has_with_own bits i low) ∙ ap (λ (x : ℕ). has_bit x i) e ∙ has_none i)

      slot_owned :
          (x : Session) → (is_free x ≡ false → session_key x ≡ key_of s) → (n : ℕ) (speaker : ℕ → SessionKey) (k : ℕ) → k < n → key_of s ≡ speaker k
          → SessionsOwned n speaker r.sessions → SessionsOwned n speaker (set r.sessions slot x)
      slot_owned x e n speaker k h q o = owned_set n speaker r.sessions o long slot x k h (λ z. e z ∙ q)

      -- what stood there is no other speech's
      other_key : (o : Speech) → (o.src ≡ s.src → ⊥) → key_of o ≡ key_of s → ⊥
      other_key o n e = n (ap (λ (a : SessionKey). a.src) e)

      other_stood : (o : Speech) → (o.src ≡ s.src → ⊥) → (o.src ≡ 0 → ⊥) → key_of o ≡ session_key (session_at r.sessions slot) → ⊥
      other_stood o n z = stood (key_of o) (other_key o n) (ne_eqb o.src 0 z)

      -- not yet complete
      stored_step :
          eqb filled (all_bits (last_of node s)) ≡ false
          → Step node s r bits i msg (lent (record { answer = Ok (Stored s.src s.auth filled); trials = 0; receiver = with_session r slot session }) msg)
      stored_step c =
          record {
            answers = is_stored_law node s bits i msg _ fresh c refl refl refl;
            own =
                Gathers len bytes some (eqb-false filled (all_bits (last_of node s)) c)
                (rw (place_set_own r.sessions slot session (omega arith) before) within)
                (session_set_own r.sessions slot session (omega arith) before) holds unheard;
            others = λ o b n z k. stage_other node o r.replay r.replay r.sessions b slot session (other_key o n) (other_stood o n z) refl k;
            sessions_owned = slot_owned session (λ _. refl);
            entries_listed = λ n f k h q o. o;
            cache_stays = refl;
          }

      -- complete
      -- the message is handed up, which leaves q
      abbrev handing : Receiver → Lent Taken
      handing q = lent (record { answer = Ok (hand_up node s).answer; trials = application_place node s s.words; receiver = q }) (onto (hand_up node s).octets msg)

      up_step :
          eqb filled (all_bits (last_of node s)) ≡ true
          → Step node s r bits i msg (handing (with_replay (with_session r slot no_session) (handed_up r.replay s.src (whole_of node s))))
      up_step c =
          record {
            answers = is_up node s bits i msg _ fresh c refl refl refl;
            own =
                Done (eqb-true filled (all_bits (last_of node s)) c) (freed_none r.sessions slot (key_of s) long (ne_eqb s.src 0 spoken) only)
                (look_up_handed_up_new r.replay g.replay_kept s.src (whole_of node s) spoken room unheard.newer);
            others = λ o b n z k.
                stage_other node o r.replay _ r.sessions b slot no_session (λ e. z (ap (λ (a : SessionKey). a.src) e)) (other_stood o n z)
                (look_up_handed_up_other r.replay g.replay_kept s.src (whole_of node s) o.src n z) k;
            sessions_owned = slot_owned no_session (λ z. absurd (true≢false z));
            entries_listed = λ n speaker k h q o. listed_handed_up n speaker r.replay o g.replay_kept s.src (whole_of node s) k h q;
            cache_stays = refl;
          }

      pub gathered_steps : message_octets ≤ length msg → Step node s r bits i msg (segments.gathered r slot session msg)
      gathered_steps big =
          by_test (eqb filled (all_bits (last_of node s)))
          (λ c.
          let full = eqb-true filled (all_bits (last_of node s)) c in
          let all = subst (λ (b : ℕ). Holds node s b len bytes) full holds in
          let u = session_up node made s w (with_session r slot no_session) same filled len bytes msg big (holds_all node s w len bytes all) in
          let is = gathered_up r slot session msg full ∙ u ∙ ap handing (upgraded_is (with_session r slot no_session) session msg) in
          subst (Step node s r bits i msg) (sym is) (up_step c))
          (λ c. subst (Step node s r bits i msg) (sym (gathered_stored r slot session msg (eqb-false filled (all_bits (last_of node s)) c))) (stored_step c))

    -- ---- at each stage
    module _ (sent : s.dst ≡ 0 → ⊥) (big : message_octets ≤ length msg) (seq ttl : ℕ) (room : has_room r.replay s.src ≡ true)
        (free : session_slots ≤ session_place r.sessions (key_of s) → free_place r.sessions < session_slots) where
      abbrev h : Header
      h = header_of node s i seq ttl

      abbrev t : Lent Taken
      t = segments.placed r h (segment_at node s i) msg

      repeated :
          (b : ℕ) → b ≡ bits → t ≡ lent (record { answer = Ok (Repeated s.src s.auth b); trials = 0; receiver = r }) msg → has_bit bits i ≡ true
          → Stage node s r.replay r.sessions bits → Step node s r bits i msg t
      repeated b same e has st =
          subst (Step node s r bits i msg) (sym (e ∙ ap (λ (x : ℕ). lent (record { answer = Ok (Repeated s.src s.auth x); trials = 0; receiver = r }) msg) same)) (again has st)

      -- the session that stands in a slot is its source's alone
      own_only :
          (j : ℕ) → j < session_slots → session_key (session_at r.sessions j) ≡ key_of s → session_place r.sessions (key_of s) < session_slots
          → j ≡ session_place r.sessions (key_of s)
      own_only j hj e own =
          let long = g.sessions_kept.places in
          let there = session_key_law r.sessions (key_of s) (omega arith) in
          let used : no_key (session_key (session_at r.sessions j)) ≡ false = rw (ap (λ (a : SessionKey). a.src) e) (ne_eqb s.src 0 spoken) in
          g.sessions_kept.apart j (session_place r.sessions (key_of s)) hj own used (e ∙ sym there)

      joined :
          (len : ℕ) (bytes : List ℕ) → has_bit bits i ≡ false → Unheard node s r.replay → session_place r.sessions (key_of s) < session_slots
          → session_at r.sessions (session_place r.sessions (key_of s)) ≡ session_of node s bits len bytes → Holds node s bits len bytes → Step node s r bits i msg t
      unfolding header_of
      joined len bytes has unheard own held holds =
          let slot = session_place r.sessions (key_of s) in
          let e = placed_join r h msg (segment_at node s i) unheard.other room (session_of node s bits len bytes) own held refl refl has in
          let more = holds_more node s w bits len bytes holds i there seq ttl in
          let new = new_len node s w bits len bytes holds i there seq ttl in
          let laid = new_bytes node s w bits len bytes holds i there seq ttl in
          subst (Step node s r bits i msg) (sym e)
          (rw (segment_stored node s w bits len bytes holds i there seq ttl)
          (gathered_steps has unheard room slot own (omega arith) (λ j hj q. own_only j hj q own)
          (λ a n z q. n (q ∙ ap session_key held)) new laid more big))

      opened :
          bits ≡ 0 → Unheard node s r.replay → session_slots ≤ session_place r.sessions (key_of s) → Step node s r bits i msg t
      unfolding header_of
      opened zero unheard out =
          let slot = free_place r.sessions in
          let within = free out in
          let long = g.sessions_kept.places in
          let e = placed_open r h msg (segment_at node s i) unheard.other room unheard.newer out within in
          let holds = subst (λ (b : ℕ). Holds node s b 0 (replicate message_octets 0)) (sym zero) (holds_begun node s) in
          let more = holds_more node s w bits 0 (replicate message_octets 0) holds i there seq ttl in
          let new = new_len node s w bits 0 (replicate message_octets 0) holds i there seq ttl in
          let laid = new_bytes node s w bits 0 (replicate message_octets 0) holds i there seq ttl in
          let begins : stored (begun s.src (segment_at node s i)) h i ≡ session_of node s (with_bit bits i) new laid =
          ap (λ (x : Session). stored x h i) (begun_is s.src (segment_at node s i) ∙ ap (λ (b : ℕ). session_of node s b 0 (replicate message_octets 0)) (sym zero))
          ∙ segment_stored node s w bits 0 (replicate message_octets 0) holds i there seq ttl in
          subst (Step node s r bits i msg) (sym e)
          (rw begins
          (gathered_steps (rw zero (has_none i)) unheard room slot within (omega arith)
          (λ j hj q. let u = place_upto r.sessions (key_of s) j q in absurd (omega arith))
          (λ a n z q. true≢false (sym (free_slot r.sessions (omega arith)) ∙ sym (ap no_key q) ∙ z)) new laid more big))

      pub placed_steps : Stage node s r.replay r.sessions bits → Step node s r bits i msg t
      unfolding header_of
      placed_steps (Silent b p u n) = opened b u p
      placed_steps (Gathers len bytes z m p held k e) =
          by_test (has_bit bits i)
          (λ has.
          repeated bits refl (placed_repeat r h msg (segment_at node s i) e.other room (session_of node s bits len bytes) p held refl refl has) has (Gathers len bytes z m p held k e))
          (λ has. joined len bytes has e p held k)
      placed_steps (Done b p e) =
          let has = ap (λ (x : ℕ). has_bit x i) b ∙ has_all (last_of node s) i there low in
          repeated (all_bits (last_of node s)) (sym b) (placed_last r h msg (segment_at node s i) sent (ap (λ (x : Entry). x.last) e)) has (Done b p e)
