-- What sending accepts goes out (document 01, "Sending"): a request within the rules is sent in full, and while a message is kept each segment of it can be made that is not heard yet.
--   sent_in_full sender q words buf   the call that sends a message, and one for each segment behind the first
--   GoesOut                           each of them makes a PDU
--   SegmentGoes                       behind any calls that leave the message kept, so does one that sends a segment
use Rattle.std.specs.Prelude.{Err, Ok, Bool, true, false, List, [], ◌∷◌, ◌≡◌, ℕ, ◌+◌, ◌≤◌, length, if◌then◌else◌}
use Rattle.common.specs.Bits.{has_bit}
use Rattle.common.specs.Lists.{tab_from}
use Rattle.network.specs.Pdu.{pdu_octets}
use Rattle.node.specs.declared.addresses.Node.{Node}
use Rattle.receiver.specs.declared.state.Receiver.{Receiver}
use Rattle.receiver.specs.Good.{Good}
use Rattle.sending.specs.declared.answer.Answer.TheVariants.{Sent, Started}
use Rattle.sending.specs.declared.request.Request.{Request}
use Rattle.sending.specs.Access.{access_allowed}
use Rattle.sending.specs.Control.{control_allowed}
use Rattle.sending.specs.Transmission.{next_seq}
use Rattle.demands.specs.Call.{Call, SendSegment, Answer, Heard, Said, Ended, Outcome, step, run, after}
use Rattle.demands.specs.Interleaved.{Each}
use Rattle.demands.specs.ReadBack.{say_call, goes_whole, said_by, seg_n_as}
use Rattle.demands.specs.Speech.{Words, Access, Control, Speech, last_of}

-- ---- in full
-- a message that was begun with segment 0 has segments 1 to SegN besides
abbrev pub rest_as : Answer → List ℕ → List Call
rest_as (Said (Ok (Sent len))) buf = []
rest_as (Said (Ok (Started len seg_n))) buf = tab_from (λ n. SendSegment n buf) 1 seg_n
rest_as (Said (Err n)) buf = []
rest_as (Heard a) buf = []
rest_as (Ended a) buf = []

abbrev pub rest_of : Receiver → Request → Words → List ℕ → List Call
rest_of sender q words buf = rest_as (step sender (say_call q words buf)).answer buf

abbrev pub sent_in_full : Receiver → Request → Words → List ℕ → List Call
sent_in_full sender q words buf = say_call q words buf ∷ rest_of sender q words buf

abbrev pub outcomes : Receiver → Request → Words → List ℕ → List Outcome
outcomes sender q words buf = run sender (sent_in_full sender q words buf)

-- the request is within the rules
abbrev pub accepted : Receiver → Request → Words → Bool
accepted sender q (Access key szmic payload) = access_allowed sender q key szmic (length payload)
accepted sender q (Control opcode parameters) = control_allowed sender q opcode (length parameters)

-- how many PDUs a message has: one, or one for each segment
abbrev pub pdu_count : Node → Speech → ℕ
pdu_count node s = if goes_whole s.words then 1 else last_of node s + 1

-- with a buffer that is not refused 16, and a sequence number for each PDU
abbrev pub GoesOut : Type 0
GoesOut =
    (sender : Receiver) (q : Request) (words : Words) (buf : List ℕ)
    → Good sender → accepted sender q words ≡ true → pdu_octets ≤ length buf
    → next_seq sender q.element + pdu_count sender.node (said_by sender q words) ≤ 0x1000000
    → Each (λ o. o.made ≡ true) (outcomes sender q words buf)

-- ---- any segment goes out while the message is kept
abbrev pub StaysKept : Receiver → List Call → Type 0
StaysKept r [] = r.out.src ≡ 0 → ⊥
StaysKept r (c ∷ l) = (r.out.src ≡ 0 → ⊥) × StaysKept (step r c).receiver l

-- one that is not heard yet, with a SEQ of 24 bits, at most 8,191 after that of segment 0
abbrev pub SegmentGoes : Type 0
SegmentGoes =
    (sender : Receiver) (q : Request) (words : Words) (buf : List ℕ) (l : List Call) (n : ℕ) (room : List ℕ)
    → Good sender
    → (let o = step sender (say_call q words buf) in
    let r = after o.receiver l in
    o.made ≡ true → goes_whole words ≡ false → StaysKept o.receiver l → n ≤ seg_n_as o.answer → has_bit r.out.heard n ≡ false → pdu_octets ≤ length room
    → next_seq r q.element ≤ next_seq sender q.element + 8191 → next_seq r q.element ≤ 0xFFFFFF
    → (step r (SendSegment n room)).made ≡ true)
