-- Reserved addresses, 0xFF00-0xFFFB (document 02, W2): a PDU to one goes on and is for nobody; none is listened to, and none is sent to.
--   ForNobody        such a PDU is refused 6, whatever receiver hears it
--   GoesOn           and forwarded where relay is on and TTL is at least 2
--   NoneListened     setup takes none as a group
--   NoneAsked        no request to send to one makes a PDU, whatever receiver is asked
--   NoneSentTo       nor does any call, of a receiver that setup made
use Rattle.std.specs.Prelude.{Err, Ok, true, false, ◌&&◌, List, ◌≡◌, ℕ, ◌<◌, leb, length, get_or, if◌then◌else◌}
use Rattle.common.specs.Lent.{lent}
use Rattle.common.specs.Lists.{onto, Octets}
use Rattle.network.specs.declared.header.Header.{Header}
use Rattle.network.specs.Address.{is_reserved}
use Rattle.network.specs.Candidates.{key_at}
use Rattle.network.specs.Pdu.{pdu_of}
use Rattle.network.specs.Sealing.{lowered}
use Rattle.node.specs.declared.setup.Setup.{Setup}
use Rattle.node.specs.Made.{WellMade}
use Rattle.receiver.specs.declared.answer.Refusal.TheVariants.{NotForNode}
use Rattle.receiver.specs.declared.state.Receiver.{Receiver}
use Rattle.receiver.specs.Fresh.{setting_up}
use Rattle.receiver.specs.Good.{Good}
use Rattle.receiver.specs.Hearing.{hearing}
use Rattle.receiver.specs.Passing.{Passes}
use Rattle.sending.specs.declared.request.Request.{Request}
use Rattle.sending.specs.Request.{dst_of, to_address}
use Rattle.demands.specs.Call.{Call, step, after}
use Rattle.demands.specs.NeverTwice.{addressee}
use Rattle.demands.specs.ReadBack.{say_call}
use Rattle.demands.specs.Speech.{Words}

-- ---- heard
-- for every receiver, not only those that setup makes: one that passes refusals 16, 1 to 4, 22 and 5 is refused 6, with its count of trials
abbrev pub ForNobody : Type 0
ForNobody =
    (r : Receiver) (pdu fwd msg : List ℕ) (trials : ℕ) (h : Header)
    → Passes r pdu fwd msg trials h → is_reserved h.dst ≡ true
    → (let o = (hearing r pdu fwd msg).heard in (o.answer ≡ Err NotForNode) × (o.network ≡ trials) × (o.application ≡ 0))

-- the octets forwarded, and the forward buffer: no element has a reserved address, so relay and TTL decide
abbrev pub GoesOn : Type 0
GoesOn =
    (r : Receiver) (pdu fwd msg : List ℕ) (trials : ℕ) (h : Header)
    → Good r → Octets pdu → Passes r pdu fwd msg trials h → is_reserved h.dst ≡ true
    → (let o = hearing r pdu fwd msg in
    let node = r.node in
    lent o.heard.forwarded o.forward
    ≡ (if node.relay && leb 2 h.ttl then lent (length pdu) (onto (pdu_of (key_at node.materials h.key) (lowered h)) fwd) else
    lent 0 fwd))

-- ---- listened to
abbrev pub NoneListened : Type 0
NoneListened = (s : Setup) → (setting_up s).answer ≡ Ok tt → (i : ℕ) → i < s.listened → is_reserved (get_or s.groups i 0) ≡ false

-- ---- sent to
abbrev pub NoneAsked : Type 0
NoneAsked =
    (r : Receiver) (q : Request) (words : Words) (buf : List ℕ)
    -- a label's address is derived from it where setup made the node
    → (to_address q.dst ≡ false → WellMade r.node) → (step r (say_call q words buf)).made ≡ true → is_reserved (dst_of r.node q.dst) ≡ false

-- after any calls; that the PDU which a call makes has its addressee as DST is `Carried`
abbrev pub NoneSentTo : Type 0
NoneSentTo =
    (s : Setup) (l : List Call) (c : Call) → (setting_up s).answer ≡ Ok tt
    → (let r = after (setting_up s).receiver l in (step r c).made ≡ true → is_reserved (addressee r c) ≡ false)
