-- Two receivers that differ in the replay list alone send the same, and keep their lists: a transmission does not look at the list, and an acknowledgement looks up one source in it, where
-- the lists agree. One law a definition, up to each call that sends. Assumes nothing.
--   bare_spoken                                                                       what a call leaves, with its receiver's replay list emptied
--   agree_access, agree_control, agree_segment, agree_acknowledging, agree_stopping   each call
use mathlib.Core.Bool.{Bool}
use mathlib.Core.List.{List}
use mathlib.Core.Path.{◌≡◌, refl}
use Prim.Native.Nat.{ℕ, min}
use borrow.Author.Tests.{eqb-false}
use lib.Dec.{eqb, leb, ltb}
use lib.ListN.{length}
use Rattle.std.specs.Prelude.{Option, None, Some, Result, Ok, Err}
use Rattle.common.specs.Lent.{Lent, lent}
use Rattle.common.proofs.Tests.{by_test}
use Rattle.network.specs.declared.header.Header.{Header}
use Rattle.network.specs.declared.sealing.Refusal as sealing_refusal
use Rattle.network.specs.Address.{is_unicast}
use Rattle.network.specs.Candidates.{network_key_places}
use Rattle.network.specs.Pdu.{pdu_octets}
use Rattle.transport.specs.declared.securing.MessageKey.{MessageKey}
use Rattle.memory.specs.declared.outgoing.Outgoing.{Outgoing}
use Rattle.memory.specs.declared.replay.Entry.{Entry}
use Rattle.memory.specs.declared.session.Session.{Session}
use Rattle.memory.specs.Replay.{Listing}
use Rattle.memory.proofs.Agree.{Agree}
use Rattle.receiver.specs.declared.answer.Refusal.{Refusal}
use Rattle.receiver.specs.declared.answer.Refusal.TheVariants.{ShortBuffer, OutsideRules, NoSeqLeft}
use Rattle.receiver.specs.declared.state.Receiver.{Receiver}
use Rattle.receiver.specs.State.{with_replay}
use Rattle.receiver.proofs.Laws.Agree.{bare_given_up}
use Rattle.receiver.proofs.Laws.Alike.{unlisted, Alike, alike_choice}
use Rattle.sending.specs.declared.acknowledge.Chosen.{Chosen}
use Rattle.sending.specs.declared.answer.Spoken.{Spoken}
use Rattle.sending.specs.declared.request.Request.{Request}
use Rattle.sending.specs.declared.transmission.Transmitted.{Transmitted}
use Rattle.sending.specs.Access.{is_whole, access_allowed, envelope_of, saying_access, sending_access}
use Rattle.sending.specs.Acknowledge.{chosen_by, acknowledgement_header, saying_acknowledgement, acknowledging_from, acknowledging_as, acknowledging_by}
use Rattle.sending.specs.Answer.{refused_at, spoken}
use Rattle.sending.specs.Control as control
use Rattle.sending.specs.Segment.{segment_header, started_as, starting, element_of, segment_allowed, sending_segment_from, sending_segment}
use Rattle.sending.specs.Stop.{stopping}
use Rattle.sending.specs.Transmission.{sending_iv, next_seq, with_next, stamped, sent_as, transmitted}
use Rattle.sending.proofs.Laws.Calls.{access_header, access_outgoing, control_header}

abbrev pub bare_spoken : Lent Spoken → Lent Spoken
bare_spoken s = lent (record { answer = s.answer.answer; receiver = unlisted s.answer.receiver }) s.buffer

-- what a transmission is answered: of a message in one PDU, and of one that is begun
abbrev said : Lent Transmitted → Lent Spoken
said t = lent (spoken t.answer) t.buffer

abbrev begun : Outgoing → Lent Transmitted → Lent Spoken
begun o t = lent (started_as t.answer.sent t.answer.receiver o) t.buffer

module _ (Both : List Entry → List Entry → Type 0) where
  abbrev Says : Lent Spoken → Lent Spoken → Type 0
  Says = Alike Both (λ s. s.answer.receiver) bare_spoken

  -- ---- one transmission
  -- whatever it is answered, and whatever receiver it leaves but for the list, what is made of it is alike
  abbrev Each : (Lent Transmitted → Lent Spoken) → (a b : List Entry) → Type 0
  Each f a b =
      (t : Result ℕ Refusal) (w : Receiver) (left : List ℕ)
      → Says (f (lent (record { sent = t; receiver = with_replay w a }) left)) (f (lent (record { sent = t; receiver = with_replay w b }) left))

  module _ (f : Lent Transmitted → Lent Spoken) (a b : List Entry) (each : Each f a b) (r : Receiver) (element : ℕ) where
    agree_sealed :
        (s : Result ℕ sealing_refusal.Refusal) (left : List ℕ)
        → Says (f (lent (sent_as s (with_replay r a) element) left)) (f (lent (sent_as s (with_replay r b) element) left))
    unfolding sent_as with_next
    agree_sealed (Ok n) left = each (Ok n) (with_next r element) left
    agree_sealed (Err e) left = each (Err OutsideRules) r left

    agree_transmitted : (h : Header) (buf : List ℕ) → Says (f (transmitted (with_replay r a) element h buf)) (f (transmitted (with_replay r b) element h buf))
    unfolding transmitted stamped
    agree_transmitted h buf =
        by_test (ltb 0xFFFFFF (next_seq r element)) (λ t. rw t (each (Err NoSeqLeft) r buf))
        (λ t. by_test (ltb h.key network_key_places) (λ u. rw (t, u) (agree_sealed _ _)) (λ u. rw (t, u) (each (Err OutsideRules) r buf)))

  module _ {a b : List Entry} (both : Both a b) where
    each_said : Each said a b
    unfolding spoken
    each_said (Ok n) w left = record { same = refl; lists = both }
    each_said (Err n) w left = record { same = refl; lists = both }

    each_begun : (o : Outgoing) → Each (begun o) a b
    each_begun o (Ok n) w left = record { same = refl; lists = both }
    each_begun o (Err n) w left = record { same = refl; lists = both }

  -- ---- each call
  module _ (r : Receiver) {a b : List Entry} (both : Both a b) where
    abbrev old : Receiver
    old = with_replay r a

    abbrev new : Receiver
    new = with_replay r b

    agree_refused : (n : Refusal) (buf : List ℕ) → Says (lent (refused_at old n) buf) (lent (refused_at new n) buf)
    agree_refused n buf = record { same = refl; lists = both }

    agree_saying : (element : ℕ) (h : Header) (buf : List ℕ) → Says (said (transmitted old element h buf)) (said (transmitted new element h buf))
    agree_saying = agree_transmitted said a b (each_said both) r

    agree_starting : (element : ℕ) (o : Outgoing) (buf : List ℕ) → Says (starting old element o buf) (starting new element o buf)
    unfolding starting
    agree_starting element o buf = agree_transmitted (begun o) a b (each_begun both o) r element (segment_header o 0) buf

    module _ (q : Request) (buf : List ℕ) where
      agree_saying_access :
          (key : MessageKey) (szmic : Bool) (payload : List ℕ) → Says (saying_access old q key szmic payload buf) (saying_access new q key szmic payload buf)
      unfolding saying_access envelope_of
      agree_saying_access key szmic payload =
          alike_choice (is_whole szmic (length payload)) (λ _. agree_saying q.element (access_header r q key szmic payload) buf)
          (λ _. agree_starting q.element (access_outgoing r q key szmic payload) buf)

      agree_saying_control :
          (opcode : ℕ) (parameters : List ℕ) → Says (control.saying_control old q opcode parameters buf) (control.saying_control new q opcode parameters buf)
      unfolding control.saying_control control.outgoing_of
      agree_saying_control opcode parameters =
          alike_choice (leb (length parameters) 11) (λ _. agree_saying q.element (control_header r q opcode parameters) buf)
          (λ _. agree_starting q.element (control.outgoing_of r q opcode parameters) buf)

    pub agree_access :
        (q : Request) (key : MessageKey) (szmic : Bool) (payload buf : List ℕ)
        → Says (sending_access old q key szmic payload buf) (sending_access new q key szmic payload buf)
    unfolding sending_access access_allowed
    agree_access q key szmic payload buf =
        alike_choice (ltb (length buf) pdu_octets) (λ _. agree_refused ShortBuffer buf)
        (λ _. alike_choice (access_allowed r q key szmic (length payload)) (λ _. agree_saying_access q buf key szmic payload) (λ _. agree_refused OutsideRules buf))

    pub agree_control :
        (q : Request) (opcode : ℕ) (parameters buf : List ℕ)
        → Says (control.sending_control old q opcode parameters buf) (control.sending_control new q opcode parameters buf)
    unfolding control.sending_control control.control_allowed
    agree_control q opcode parameters buf =
        alike_choice (ltb (length buf) pdu_octets) (λ _. agree_refused ShortBuffer buf)
        (λ _. alike_choice (control.control_allowed r q opcode (length parameters)) (λ _. agree_saying_control q buf opcode parameters) (λ _. agree_refused OutsideRules buf))

    agree_segment_from : (e : Option ℕ) (n : ℕ) (buf : List ℕ) → Says (sending_segment_from e old n buf) (sending_segment_from e new n buf)
    unfolding sending_segment_from segment_allowed
    agree_segment_from None n buf = agree_refused OutsideRules buf
    agree_segment_from (Some element) n buf =
        alike_choice (segment_allowed r element n) (λ _. agree_saying element (segment_header r.out n) buf) (λ _. agree_refused OutsideRules buf)

    pub agree_segment : (n : ℕ) (buf : List ℕ) → Says (sending_segment old n buf) (sending_segment new n buf)
    unfolding sending_segment
    agree_segment n buf =
        alike_choice (ltb (length buf) pdu_octets) (λ _. agree_refused ShortBuffer buf) (λ _. agree_segment_from (element_of r.node r.out.src) n buf)

    pub agree_stopping : Alike Both (λ g. g.receiver) bare_given_up (stopping old) (stopping new)
    unfolding stopping
    agree_stopping = alike_choice (eqb r.out.src 0) (λ _. record { same = refl; lists = both }) (λ _. record { same = refl; lists = both })

-- ---- an acknowledgement looks up its source
module _ {o n : Listing} {Both : List Entry → List Entry → Type 0} (agree : Agree o n Both) where
  agree_chosen : {a b : List Entry} → Both a b → (sessions : List Session) (src : ℕ) → chosen_by o a sessions src ≡ chosen_by n b sessions src
  unfolding chosen_by
  agree_chosen both sessions src = by_test (eqb src 0) (λ t. rw t refl) (λ t. rw (t, agree.looks both src (eqb-false src 0 t)) refl)

  module _ (r : Receiver) {a b : List Entry} (both : Both a b) (net src : ℕ) (buf : List ℕ) where
    agree_from :
        (e : Option ℕ) (c : Chosen)
        → Says Both (acknowledging_from e (with_replay r a) net src c buf) (acknowledging_from e (with_replay r b) net src c buf)
    unfolding acknowledging_from saying_acknowledgement
    agree_from None c = agree_refused Both r both OutsideRules buf
    agree_from (Some element) c = agree_saying Both r both element (acknowledgement_header (sending_iv r.node) net src c) buf

    agree_as : (c : Option Chosen) → Says Both (acknowledging_as c (with_replay r a) net src buf) (acknowledging_as c (with_replay r b) net src buf)
    unfolding acknowledging_as
    agree_as None = agree_refused Both r both OutsideRules buf
    agree_as (Some c) = alike_choice (is_unicast c.dst) (λ _. agree_from (element_of r.node c.dst) c) (λ _. agree_refused Both r both OutsideRules buf)

    pub agree_acknowledging : Says Both (acknowledging_by o (with_replay r a) net src buf) (acknowledging_by n (with_replay r b) net src buf)
    unfolding acknowledging_by
    agree_acknowledging =
        rw (agree_chosen both r.sessions src)
        (alike_choice (ltb (length buf) pdu_octets) (λ _. agree_refused Both r both ShortBuffer buf)
        (λ _. alike_choice (ltb net (min r.node.networks network_key_places)) (λ _. agree_as (chosen_by n b r.sessions src))
        (λ _. agree_refused Both r both OutsideRules buf)))
