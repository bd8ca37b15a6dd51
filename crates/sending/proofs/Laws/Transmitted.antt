-- One transmission: it leaves everything, or the PDU was sealed with the element's next SEQ, which is used. Each test on the way is walked once; what is said of a transmission,
-- and starting a message, follow its answer. Assumes nothing.
--   checked n                 the refusals of sending
--   Sends                     the tests that a transmission passes
--   used r element            the receiver with that SEQ used
--   by_saying, by_starting    what holds of each refusal and of a PDU sent holds of the call
--   saying_is, starting_is    what is sent where the tests pass
--   by_stopping               giving up the outgoing message
use mathlib.Core.Bool.{Bool, true, ◌&&◌}
use mathlib.Core.List.{List}
use mathlib.Core.Path.{◌≡◌, refl, ap}
use Prim.Native.Nat.{ℕ, ◌+◌, ◌≤◌, ◌<◌}
use borrow.Author.Tests.{lt-ltb, le-ltb, ltb-true, ltb-false}
use lib.Dec.{eqb, leb, ltb}
use lib.ListN.{length, set}
use lib.Seq.{get_or-set_same}
use Rattle.std.specs.Prelude.{Result, Ok, Err}
use Rattle.common.specs.Lent.{Lent, lent}
use Rattle.common.specs.Lists.{onto}
use Rattle.common.proofs.Tests.{by_choice}
use Rattle.keys.specs.declared.NetworkKeys.{NetworkKeys}
use Rattle.network.specs.declared.header.Header.{Header}
use Rattle.network.specs.declared.sealing.Refusal as sealing_refusal
use Rattle.network.specs.Candidates.{network_key_places, key_at}
use Rattle.network.specs.Pdu.{pdu_octets, pdu_of}
use Rattle.network.specs.Sealing.{sealable, sealing}
use Rattle.memory.specs.declared.outgoing.Outgoing.{Outgoing}
use Rattle.memory.specs.Outgoing.{no_outgoing}
use Rattle.receiver.specs.declared.answer.Refusal.{Refusal}
use Rattle.receiver.specs.declared.answer.Refusal.TheVariants as refusal
use Rattle.receiver.specs.declared.give_up.GivenUp.{GivenUp}
use Rattle.receiver.specs.declared.state.Receiver.{Receiver}
use Rattle.receiver.specs.Answer.{refusal_number}
use Rattle.receiver.specs.State.{with_outgoing}
use Rattle.sending.specs.declared.answer.Answer.TheVariants as answer
use Rattle.sending.specs.declared.answer.Spoken.{Spoken}
use Rattle.sending.specs.declared.transmission.Transmitted.{Transmitted}
use Rattle.sending.specs.Answer.{refused_at, spoken}
use Rattle.sending.specs.Segment.{segment_header, started_as, starting}
use Rattle.sending.specs.Stop.{stopping}
use Rattle.sending.specs.Transmission.{next_seq, with_next, stamped, no_transmission, sent_as, transmitted}
use Rattle.sending.proofs.NewSeq.{next_rises}

-- 16, 14 and 15
abbrev pub checked : Refusal → Bool
checked n = leb 14 (refusal_number n) && leb (refusal_number n) 16

-- the element's next SEQ is used, and nothing else is changed
abbrev pub used : Receiver → ℕ → Receiver
used r element =
    record { node = r.node; next = set r.next element (next_seq r element + 1); cache = r.cache; replay = r.replay; sessions = r.sessions; out = r.out }

pub used_own : (r : Receiver) (element : ℕ) → element < length r.next → next_seq (used r element) element ≡ next_seq r element + 1
used_own r element h = get_or-set_same r.next element (next_seq r element + 1) 0 h

pub used_rises : (r : Receiver) (element any : ℕ) → next_seq r any ≤ next_seq (used r element) any
unfolding with_next
used_rises r element any = next_rises r element any

-- a transmission, as it is answered
abbrev pub saying : Receiver → ℕ → Header → List ℕ → Lent Spoken
saying r element h buf = let t = transmitted r element h buf in lent (spoken t.answer) t.buffer

-- the PDU that is sent
abbrev pub pdu_by : Receiver → ℕ → Header → List ℕ
pdu_by r element h = pdu_of (key_at r.node.materials h.key) (stamped r element h)

-- an SEQ is left, the key has a place, the buffer is long enough, and the PDU can be sealed
pub record Sends (r : Receiver) (element : ℕ) (h : Header) (buf : List ℕ) : Type 0 where
  pub seq_left : next_seq r element ≤ 0xFFFFFF
  pub key_there : h.key < network_key_places
  pub wide : pdu_octets ≤ length buf
  pub can : sealable (key_at r.node.materials h.key) (stamped r element h) ≡ true

module _ (r : Receiver) (element : ℕ) (h : Header) (buf : List ℕ) where
  abbrev key : NetworkKeys
  key = key_at r.node.materials h.key

  abbrev pdu : List ℕ
  pdu = pdu_by r element h

  -- ---- where the tests pass
  module _ (s : Sends r element h buf) where
    pub sealing_is : sealing key (stamped r element h) buf ≡ lent (Ok (length pdu)) (onto pdu buf)
    unfolding sealing
    sealing_is = rw (le-ltb (length buf) pdu_octets s.wide, s.can) refl

    transmitted_is : transmitted r element h buf ≡ lent (record { sent = Ok (length pdu); receiver = used r element }) (onto pdu buf)
    unfolding transmitted sent_as with_next
    transmitted_is = rw (le-ltb 0xFFFFFF (next_seq r element) s.seq_left, lt-ltb h.key network_key_places s.key_there, sealing_is) refl

    pub saying_is : saying r element h buf ≡ lent (record { answer = Ok (answer.Sent (length pdu)); receiver = used r element }) (onto pdu buf)
    unfolding spoken
    saying_is = ap (λ (t : Lent Transmitted). lent (spoken t.answer) t.buffer) transmitted_is

  -- ---- or not
  by_transmitted :
      (P : Lent Transmitted → Type 0) → P (lent (no_transmission refusal.NoSeqLeft r) buf) → P (lent (no_transmission refusal.OutsideRules r) buf)
      → (Sends r element h buf → P (lent (record { sent = Ok (length pdu); receiver = used r element }) (onto pdu buf))) → P (transmitted r element h buf)
  unfolding transmitted sealing sent_as with_next
  by_transmitted P none unsealed sent =
      let Q : Lent (Result ℕ sealing_refusal.Refusal) → Type 0 = λ s. P (lent (sent_as s.answer r element) s.buffer) in
      by_choice P (ltb 0xFFFFFF (next_seq r element)) (λ _. none)
      (λ t. by_choice P (ltb h.key network_key_places)
      (λ u. by_choice Q (ltb (length buf) pdu_octets) (λ _. unsealed)
      (λ v. by_choice Q (sealable key (stamped r element h))
      (λ c. sent
      (record { seq_left = ltb-false 0xFFFFFF (next_seq r element) t; key_there = ltb-true h.key network_key_places u; wide = ltb-false (length buf) pdu_octets v; can = c }))
      (λ _. unsealed)))
      (λ _. unsealed))

  pub by_saying :
      (P : Lent Spoken → Type 0) → ((n : Refusal) → checked n ≡ true → P (lent (refused_at r n) buf))
      → (Sends r element h buf → P (lent (record { answer = Ok (answer.Sent (length pdu)); receiver = used r element }) (onto pdu buf))) → P (saying r element h buf)
  unfolding spoken
  by_saying P refused sent =
      by_transmitted (λ (t : Lent Transmitted). P (lent (spoken t.answer) t.buffer)) (refused refusal.NoSeqLeft refl) (refused refusal.OutsideRules refl) sent

-- ---- a message is begun: segment 0 is sent, and it is kept
module _ (r : Receiver) (element : ℕ) (o : Outgoing) (buf : List ℕ) where
  abbrev first : Header
  first = segment_header o 0

  abbrev begun : Lent Spoken
  begun =
      lent (record { answer = Ok (answer.Started (length (pdu_by r element first)) o.terms.segn); receiver = with_outgoing (used r element) o })
      (onto (pdu_by r element first) buf)

  pub starting_is : Sends r element first buf → starting r element o buf ≡ begun
  unfolding starting
  starting_is s = rw (transmitted_is r element first buf s) refl

  pub by_starting :
      (P : Lent Spoken → Type 0) → ((n : Refusal) → checked n ≡ true → P (lent (refused_at r n) buf)) → (Sends r element first buf → P begun) → P (starting r element o buf)
  unfolding starting
  by_starting P refused sent =
      by_transmitted r element first buf (λ (t : Lent Transmitted). P (lent (started_as t.answer.sent t.answer.receiver o) t.buffer))
      (refused refusal.NoSeqLeft refl) (refused refusal.OutsideRules refl) sent

-- ---- the outgoing message is given up
pub by_stopping :
    (P : GivenUp → Type 0) (r : Receiver) → P (record { answer = Err refusal.OutsideRules; receiver = r })
    → P (record { answer = Ok tt; receiver = with_outgoing r no_outgoing }) → P (stopping r)
unfolding stopping
by_stopping P r refused done = by_choice P (eqb r.out.src 0) (λ _. refused) (λ _. done)
