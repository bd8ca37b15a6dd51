-- Our own sender's segments are approved (document 02, W12): of every receiver that setup made, after any calls, that keeps an outgoing message.
--   SendableStep, SendableAfter   what holds of a message that is kept is kept by every call, and true after setup and any calls
--   segments_kept o               its segments, as they are sent
--   OwnApproved                   they are approved, and what is kept is shown
--   KeptAsSaid                    what is kept is what the call that began the message was given: the secured payload, or the parameters
use Rattle.std.specs.Prelude.{true, false, List, Ok, ◌≡◌, ℕ, suc, ◌≤◌, length}
use Rattle.common.specs.Lent.{lent}
use Rattle.common.specs.Lists.{tab, onto}
use Rattle.transport.specs.Listed.{written}
use Rattle.transport.specs.Segment.{message_octets}
use Rattle.transport.specs.Vetting.{vetting}
use Rattle.memory.specs.declared.outgoing.Outgoing.{Outgoing}
use Rattle.node.specs.declared.setup.Setup.{Setup}
use Rattle.receiver.specs.declared.state.Receiver.{Receiver}
use Rattle.receiver.specs.Fresh.{setting_up}
use Rattle.receiver.specs.Good.{Good}
use Rattle.sending.specs.declared.request.Request.{Request}
use Rattle.sending.specs.Segment.{segment_pdu}
use Rattle.sending.specs.Sendable.{kept_octets, Sendable}
use Rattle.demands.specs.Call.{Call, step, after}
use Rattle.demands.specs.GoesOut.{StaysKept}
use Rattle.demands.specs.Interleaved.{start}
use Rattle.demands.specs.ReadBack.{say_call, goes_whole, said_by}
use Rattle.demands.specs.Speech.{Words, octets_of}

-- ---- kept by every call
-- SRC 0 marks that none is kept
abbrev pub SendableIfKept : Outgoing → Type 0
SendableIfKept o = (o.src ≡ 0 → ⊥) → Sendable o

abbrev pub SendableStep : Type 0
SendableStep = (r : Receiver) (c : Call) → SendableIfKept r.out → SendableIfKept (step r c).receiver.out

abbrev pub SendableAfter : Type 0
SendableAfter = (s : Setup) (l : List Call) → (setting_up s).answer ≡ Ok tt → SendableIfKept (after (start s) l).out

-- ---- its segments
-- 0 to SegN
abbrev pub segments_kept : Outgoing → List (List ℕ)
segments_kept o = tab (segment_pdu o) (suc o.terms.segn)

abbrev pub OwnApproved : Type 0
OwnApproved =
    (s : Setup) (l : List Call) (buf : List ℕ) → (setting_up s).answer ≡ Ok tt → message_octets ≤ length buf
    → (let o = (after (start s) l).out in
    (o.src ≡ 0 → ⊥) → vetting o.terms.ctl (written (segments_kept o)) buf ≡ lent (Ok o.len) (onto (kept_octets o) buf))

-- behind any calls that leave the message kept
abbrev pub KeptAsSaid : Type 0
KeptAsSaid =
    (sender : Receiver) (q : Request) (words : Words) (buf : List ℕ) (l : List Call) → Good sender
    → (let o = step sender (say_call q words buf) in
    o.made ≡ true → goes_whole words ≡ false → StaysKept o.receiver l → kept_octets (after o.receiver l).out ≡ octets_of sender.node (said_by sender q words))
