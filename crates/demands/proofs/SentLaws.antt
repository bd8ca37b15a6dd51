-- What a call that made a PDU has done: it sealed the header that it stamped, and its buffer begins with that PDU. A message is sent whole, or begun with segment 0 and kept.
-- Assumes nothing.
--   Transmits      a header was sealed, with the element's next SEQ
--   Way            whole, or begun
--   way            each call that made a PDU went one of these ways
use mathlib.Core.Bool.{true, false, false≢true}
use mathlib.Core.List.{List}
use mathlib.Core.Path.{◌≡◌, refl}
use Prim.Native.Nat.{ℕ}
use lib.ListN.{length, take}
use lib.Seq.{take-append_seam}
use Rattle.std.specs.Prelude.{Ok}
use Rattle.common.specs.Lent.{Lent}
use Rattle.common.specs.Lists.{onto}
use Rattle.network.specs.declared.header.Header.{Header}
use Rattle.network.specs.Candidates.{key_at}
use Rattle.network.specs.Pdu.{pdu_of}
use Rattle.network.specs.Sealing.{sealable}
use Rattle.memory.specs.declared.outgoing.Outgoing.{Outgoing}
use Rattle.receiver.specs.declared.state.Receiver.{Receiver}
use Rattle.receiver.specs.State.{with_outgoing}
use Rattle.sending.specs.declared.answer.Answer.TheVariants as answer
use Rattle.sending.specs.declared.answer.Spoken.{Spoken}
use Rattle.sending.specs.declared.request.Request.{Request}
use Rattle.sending.specs.Access as access
use Rattle.sending.specs.Control as control
use Rattle.sending.specs.Segment.{segment_header, starting}
use Rattle.sending.specs.Transmission.{stamped}
use Rattle.sending.proofs.Laws.Calls.{access_header, access_outgoing, control_header, walk_access, walk_control}
use Rattle.sending.proofs.Laws.Transmitted.{used, saying, pdu_by, Sends, by_saying, by_starting}
use Rattle.demands.specs.Call.{made_by, left_said, step}
use Rattle.demands.specs.GoesOut.{accepted}
use Rattle.demands.specs.ReadBack.{say_call, goes_whole}
use Rattle.demands.specs.Speech.{Words, Access, Control}

-- ---- a transmission
pub record Transmits (r : Receiver) (element : ℕ) (h : Header) (len : ℕ) (b : List ℕ) : Type 0 where
  pub can : sealable (key_at r.node.materials h.key) (stamped r element h) ≡ true
  pub pdu : take len b ≡ pdu_of (key_at r.node.materials h.key) (stamped r element h)

transmits : (r : Receiver) (element : ℕ) (h : Header) (buf : List ℕ) → Sends r element h buf → Transmits r element h (length (pdu_by r element h)) (onto (pdu_by r element h) buf)
transmits r element h buf c = record { can = c.can; pdu = take-append_seam (pdu_by r element h) _ }

-- a PDU was sent, and its SEQ is used
pub record SaidBy (r : Receiver) (element : ℕ) (h : Header) (s : Lent Spoken) : Type 0 where
  pub len : ℕ
  pub says : s.answer.answer ≡ Ok (answer.Sent len)
  pub leaves : s.answer.receiver ≡ used r element
  pub transmitted_is : Transmits r element h len s.buffer

-- segment 0 was sent, and the message is kept
pub record StartedBy (r : Receiver) (element : ℕ) (o : Outgoing) (s : Lent Spoken) : Type 0 where
  pub len : ℕ
  pub says : s.answer.answer ≡ Ok (answer.Started len o.terms.segn)
  pub leaves : s.answer.receiver ≡ with_outgoing (used r element) o
  pub transmitted_is : Transmits r element (segment_header o 0) len s.buffer

module _ (r : Receiver) (element : ℕ) (buf : List ℕ) where
  pub said_by_law : (h : Header) → made_by (saying r element h buf).answer.answer ≡ true → SaidBy r element h (saying r element h buf)
  said_by_law h =
      by_saying r element h buf (λ (s : Lent Spoken). made_by s.answer.answer ≡ true → SaidBy r element h s) (λ _ _ m. absurd (false≢true m))
      (λ c _. record { len = _; says = refl; leaves = refl; transmitted_is = transmits r element h buf c })

  pub started_by : (o : Outgoing) → made_by (starting r element o buf).answer.answer ≡ true → StartedBy r element o (starting r element o buf)
  started_by o =
      by_starting r element o buf (λ (s : Lent Spoken). made_by s.answer.answer ≡ true → StartedBy r element o s) (λ _ _ m. absurd (false≢true m))
      (λ c _. record { len = _; says = refl; leaves = refl; transmitted_is = transmits r element (segment_header o 0) buf c })

-- ---- the two ways
module _ (r : Receiver) (q : Request) where
  abbrev pub header_as : Words → Header
  header_as (Access key szmic payload) = access_header r q key szmic payload
  header_as (Control code parameters) = control_header r q code parameters

  abbrev pub kept_as : Words → Outgoing
  kept_as (Access key szmic payload) = access_outgoing r q key szmic payload
  kept_as (Control code parameters) = control.outgoing_of r q code parameters

  abbrev pub sending_as : Words → List ℕ → Lent Spoken
  sending_as (Access key szmic payload) buf = access.sending_access r q key szmic payload buf
  sending_as (Control code parameters) buf = control.sending_control r q code parameters buf

  pub data Way (words : Words) (s : Lent Spoken) : Type 0 where
    Whole : accepted r q words ≡ true → goes_whole words ≡ true → SaidBy r q.element (header_as words) s → Way words s
    Begun : accepted r q words ≡ true → goes_whole words ≡ false → StartedBy r q.element (kept_as words) s → Way words s

  pub way : (words : Words) (buf : List ℕ) → made_by (sending_as words buf).answer.answer ≡ true → Way words (sending_as words buf)
  way (Access key szmic payload) buf =
      walk_access r buf (λ (s : Lent Spoken). made_by s.answer.answer ≡ true → Way (Access key szmic payload) s) (λ _ _ m. absurd (false≢true m)) q key szmic payload
      (λ a w m. Whole a w (said_by_law r q.element buf _ m)) (λ a w m. Begun a w (started_by r q.element buf _ m))
  way (Control code parameters) buf =
      walk_control r buf (λ (s : Lent Spoken). made_by s.answer.answer ≡ true → Way (Control code parameters) s) (λ _ _ m. absurd (false≢true m)) q code parameters
      (λ a w m. Whole a w (said_by_law r q.element buf _ m)) (λ a w m. Begun a w (started_by r q.element buf _ m))

  -- the call that sends is one of the two
  pub step_is : (words : Words) (buf : List ℕ) → step r (say_call q words buf) ≡ left_said (sending_as words buf)
  step_is (Access key szmic payload) buf = refl
  step_is (Control code parameters) buf = refl
