-- A request to acknowledge in the middle of a scene. What is chosen for a source is what its speech's stage says: the session that gathers, or the message that is remembered; so it names the
-- segments come so far. An open session is a speaker's, and so is an entry; of a source that is none, and of a speaker that has not been heard, nothing is chosen, DST 0, which is not unicast.
-- Assumes nothing.
--   address_of_law   the element that acknowledges has the DST
--   asked_names      an acknowledgement names the segments come so far
--   asked_made       the PDU that it makes
--   asked_sent       it goes out where a SEQ is left
--   asked_refuses    where it is for no speech it is refused
use mathlib.Core.Bool.{true, false, false≢true}
use mathlib.Core.List.{List}
use mathlib.Core.Logic.{⊎_elim}
use mathlib.Core.Path.{◌≡◌, refl, sym, ap, ◌∙◌, subst}
use Prim.Native.Nat.{ℕ, ◌≤◌, ◌<◌}
use native.Mathlib.Omega.{arith}
use borrow.Author.Tests.{eqb-true, eqb-false, ltb-true, ltb-false}
use lib.Dec.{eqb, ltb}
use lib.ListN.{length}
use Rattle.std.specs.Prelude.{Some}
use Rattle.common.specs.Bits.{all_bits}
use Rattle.common.specs.Lent.{Lent, lent}
use Rattle.common.proofs.Tests.{by_test}
use Rattle.network.specs.Address.{is_unicast, kind_of}
use Rattle.network.specs.Pdu.{pdu_octets}
use Rattle.network.proofs.AddressLaws.{unicast_some}
use Rattle.memory.specs.declared.replay.Entry.{Entry}
use Rattle.memory.specs.declared.session.Session.{Session}
use Rattle.memory.specs.declared.session.SessionKey.{SessionKey}
use Rattle.memory.specs.Replay.{look_up}
use Rattle.memory.specs.Session.{session_slots, session_place, no_key}
use Rattle.memory.proofs.ReplayMap.{listed_or_none}
use Rattle.memory.proofs.SessionSlots.{session_key_law}
use Rattle.node.specs.declared.addresses.Node.{Node}
use Rattle.node.specs.Made.{WellMade}
use Rattle.node.specs.Addresses.{for_node}
use Rattle.node.proofs.Addressed.{for_allowed, local_of}
use Rattle.receiver.specs.declared.answer.Refusal.TheVariants as refusal
use Rattle.receiver.specs.declared.state.Receiver.{Receiver}
use Rattle.sending.specs.declared.acknowledge.Chosen.{Chosen}
use Rattle.sending.specs.declared.answer.Spoken.{Spoken}
use Rattle.sending.specs.Acknowledge.{chosen, saying_acknowledgement, acknowledging}
use Rattle.sending.specs.Answer.{refused_at}
use Rattle.sending.specs.Segment.{element_at}
use Rattle.sending.specs.Transmission.{address_of, next_seq}
use Rattle.sending.proofs.Laws.Calls.{acknowledgement_said, acknowledgement_sent, acknowledgement_no_key, acknowledgement_not_unicast, acknowledgement_none}
use Rattle.sending.proofs.Laws.Calls.{chosen_zero, chosen_session, chosen_last, chosen_none}
use Rattle.sending.proofs.Laws.Stamped.{address_back, element_low}
use Rattle.sending.proofs.Laws.Transmitted.{saying}
use Rattle.demands.specs.Call.{made_by}
use Rattle.demands.specs.Interleaved.{Arrival, speech_at, come, Spent, AskedOf}
use Rattle.demands.specs.Speech.{Speech, last_of, Speakable}
use Rattle.demands.proofs.AcknowledgementLaws.{unstamped, goes_out, Made, made_by_law}
use Rattle.demands.proofs.SceneLaws.{speaker_of, speaker_key, Scenery, same_scene}
use Rattle.demands.proofs.SpeechSession.{session_of}
use Rattle.demands.proofs.StageLaws.{none_all, entry_of, key_of, Stage, Silent, Gathers, Done}

-- an address that is for a node is not 0
sent_some : (node : Node) (made : WellMade node) (dst : ℕ) → for_node node dst ≡ true → dst ≡ 0 → ⊥
unfolding kind_of
sent_some node made dst here e = false≢true (rw e at (for_allowed node made dst false (λ c. absurd (false≢true c)) here))

-- ---- by its stage
module _ (node : Node) (s : Speech) (replay : List Entry) (sessions : List Session) (bits : ℕ) where
  -- some of it has come: it is chosen, with what has come
  chosen_is :
      (s.src ≡ 0 → ⊥) → (s.dst ≡ 0 → ⊥) → (bits ≡ 0 → ⊥) → Stage node s replay sessions bits
      → chosen replay sessions s.src ≡ Some (record { auth = s.auth; dst = s.dst; bits = bits })
  chosen_is spoken sent some (Silent b p u n) = absurd (some b)
  chosen_is spoken sent some (Gathers len bytes z m p h k e) = chosen_session replay sessions s.src spoken (session_of node s bits len bytes) p h
  chosen_is spoken sent some (Done b p e) = chosen_last replay sessions s.src spoken (entry_of node s) p e sent ∙ rw b refl

  -- its session is open: some of it has come
  open_some : session_place sessions (key_of s) < session_slots → Stage node s replay sessions bits → bits ≡ 0 → ⊥
  open_some own (Silent b p u n) = absurd (omega arith)
  open_some own (Gathers len bytes z m p h k e) = z
  open_some own (Done b p e) = absurd (omega arith)

  -- none of it has come: no message of its source was handed up in segments
  silent_none : bits ≡ 0 → Stage node s replay sessions bits → (look_up replay s.src).last.dst ≡ 0
  silent_none none (Silent b p u n) = n
  silent_none none (Gathers len bytes z m p h k e) = absurd (z none)
  silent_none none (Done b p e) = absurd (none_all (last_of node s) (sym none ∙ b))

module _ (node : Node) (made : WellMade node) (speeches : List Speech) (speak : (k : ℕ) → k < length speeches → Speakable node (speech_at speeches k)) (spent : Spent)
    (before : List Arrival) (r : Receiver) (sc : Scenery node speeches spent r (λ k. come k before)) (net src : ℕ) (buf : List ℕ) (wide : pdu_octets ≤ length buf) where
  abbrev Refused : Type 0
  Refused = acknowledging r net src buf ≡ lent (refused_at r refusal.OutsideRules) buf

  -- what is chosen of speech k
  abbrev of_speech : ℕ → Chosen
  of_speech k = record { auth = (speech_at speeches k).auth; dst = (speech_at speeches k).dst; bits = come k before }

  chosen_of : (k : ℕ) → k < length speeches → src ≡ speaker_of speeches k → (come k before ≡ 0 → ⊥) → chosen r.replay r.sessions src ≡ Some (of_speech k)
  chosen_of k hk e some =
      let spoken = unicast_some (speaker_of speeches k) (speak k hk).from_unicast in
      let sent = sent_some node made (speech_at speeches k).dst (speak k hk).for_here in
      rw e (chosen_is node (speech_at speeches k) r.replay r.sessions (come k before) spoken sent some (sc.stages k hk))

  -- ---- it is for speech k
  pub asked_names :
      (k : ℕ) → AskedOf node speeches before net src k
      → acknowledging r net src buf ≡ saying_acknowledgement r (element_at node (speech_at speeches k).dst) net src (of_speech k) buf
  asked_names k f =
      let s = speech_at speeches k in
      let c = chosen_of k f.one_of f.its_source f.some_come in
      let w = speak k f.one_of in
      let n = local_of node made s.dst f.to_unicast_law w.for_here in
      let most = made.networks_most in
      let there = f.key_there in
      let same = same_scene sc in
      acknowledgement_sent r buf wide net src (of_speech k) c (rw same (omega arith)) f.to_unicast_law (rw same n) ∙ rw same refl

  -- its element has the DST
  pub address_of_law : (k : ℕ) → AskedOf node speeches before net src k → address_of r.node (element_at node (speech_at speeches k).dst) ≡ (speech_at speeches k).dst
  address_of_law k f =
      let dst = (speech_at speeches k).dst in
      rw (same_scene sc) (address_back node made dst (local_of node made dst f.to_unicast_law (speak k f.one_of).for_here))

  asked_said :
      (k : ℕ) → AskedOf node speeches before net src k
      → (let element = element_at node (speech_at speeches k).dst in
      acknowledging r net src buf ≡ saying r element (unstamped r element net src (of_speech k) buf) buf)
  asked_said k f = asked_names k f ∙ acknowledgement_said r (element_at node (speech_at speeches k).dst) net src (of_speech k) buf

  -- the PDU that it makes
  pub asked_made :
      (k : ℕ) → AskedOf node speeches before net src k → made_by (acknowledging r net src buf).answer.answer ≡ true
      → Made r (element_at node (speech_at speeches k).dst) net src (of_speech k) buf (acknowledging r net src buf)
  asked_made k f =
      let element = element_at node (speech_at speeches k).dst in
      subst (λ (s : Lent Spoken). made_by s.answer.answer ≡ true → Made r element net src (of_speech k) buf s) (sym (asked_said k f))
      (made_by_law r element net src (of_speech k) buf)

  pub asked_sent :
      (k : ℕ) → AskedOf node speeches before net src k → next_seq r (element_at node (speech_at speeches k).dst) ≤ 0xFFFFFF
      → made_by (acknowledging r net src buf).answer.answer ≡ true
  asked_sent k f left =
      let element = element_at node (speech_at speeches k).dst in
      let there : net < r.node.networks = rw (same_scene sc) f.key_there in
      let from : is_unicast (address_of r.node element) ≡ true = rw (address_of_law k f) f.to_unicast_law in
      let to : is_unicast src ≡ true = rw f.its_source (speak k f.one_of).from_unicast in
      ap (λ (s : Lent Spoken). made_by s.answer.answer) (asked_said k f)
      ∙ goes_out r element net src (of_speech k) buf sc.good.node_made there left from to wide

  -- ---- it is for none
  module _ (none : (k : ℕ) → AskedOf node speeches before net src k → ⊥) where
    -- some of the speech has come: its DST is not unicast, or the key is not there
    refused_speech : (k : ℕ) → k < length speeches → src ≡ speaker_of speeches k → (come k before ≡ 0 → ⊥) → Refused
    refused_speech k hk e some =
        let s = speech_at speeches k in
        let same = same_scene sc in
        by_test (is_unicast s.dst)
        (λ u. by_test (ltb net node.networks)
        (λ t. absurd (none k (record { one_of = hk; its_source = e; some_come = some; to_unicast_law = u; key_there = ltb-true net node.networks t })))
        (λ t. let past = ltb-false net node.networks t in acknowledgement_no_key r buf wide net src (rw same (omega arith))))
        (λ u. acknowledgement_not_unicast r buf wide net src (of_speech k) (chosen_of k hk e some) u)

    module _ (z : src ≡ 0 → ⊥) where
      abbrev key : SessionKey
      key = record { src = src }

      abbrev own : ℕ
      own = session_place r.sessions key

      -- a session that is open is a speaker's
      refused_open : own < session_slots → Refused
      refused_open here =
          let long = sc.good.sessions_kept.places in
          let there = session_key_law r.sessions key (omega arith) in
          let used : no_key key ≡ false = by_test (eqb src 0) (λ t. absurd (z (eqb-true src 0 t))) (λ t. t) in
          let o = sc.sessions_owned.owned own here (ap no_key there ∙ used) in
          let k = sc.sessions_owned.owner own in
          let e : key ≡ speaker_key speeches k = sym there ∙ o.1 in
          let at : session_place r.sessions (speaker_key speeches k) < session_slots = subst (λ (a : SessionKey). session_place r.sessions a < session_slots) e here in
          refused_speech k o.0 (ap (λ (a : SessionKey). a.src) e)
          (open_some node (speech_at speeches k) r.replay r.sessions (come k before) at (sc.stages k o.0))

      -- no session, no message handed up
      refused_unknown : session_slots ≤ own → (look_up r.replay src).last.dst ≡ 0 → Refused
      refused_unknown out e =
          acknowledgement_none r buf wide net src (chosen_none r.replay r.sessions src z (look_up r.replay src) out refl e)

      refused_closed : session_slots ≤ own → Refused
      refused_closed out =
          ⊎_elim
          (λ m.
          let k = m.0 in
          by_test (eqb (come k before) 0)
          (λ t.
          let e = silent_none node (speech_at speeches k) r.replay r.sessions (come k before) (eqb-true (come k before) 0 t) (sc.stages k m.1) in
          refused_unknown out (rw m.2 e))
          (λ t. refused_speech k m.1 m.2 (eqb-false (come k before) 0 t)))
          (λ e. refused_unknown out (ap (λ (x : Entry). x.last.dst) e))
          (listed_or_none (length speeches) (speaker_of speeches) r.replay sc.entries_listed src z)

    pub asked_refuses : Refused
    asked_refuses =
        by_test (eqb src 0)
        (λ t. let e = eqb-true src 0 t in acknowledgement_none r buf wide net src (rw e (chosen_zero r.replay r.sessions)))
        (λ t.
        let z = eqb-false src 0 t in
        by_test (ltb (own z) session_slots) (λ u. refused_open z (ltb-true (own z) session_slots u)) (λ u. refused_closed z (ltb-false (own z) session_slots u)))
