-- Forwarding (document 01, "Forwarding"; document 02, W5): a PDU that passes refusals 1 to 4, 22 and 5, so whose SRC is none of our elements, is forwarded exactly when relay is on, TTL
-- is at least 2 and DST is no local unicast address; what is forwarded is the PDU sealed again by the key that opened it, with TTL less 1, in as many octets.
use Rattle.std.specs.Prelude.{List, ◌≡◌, ℕ, length, if◌then◌else◌}
use Rattle.common.specs.Lent.{lent}
use Rattle.common.specs.Lists.{onto, Octets}
use Rattle.network.specs.declared.header.Header.{Header}
use Rattle.network.specs.Candidates.{key_at}
use Rattle.network.specs.Pdu.{pdu_of}
use Rattle.network.specs.Sealing.{forwards, lowered}
use Rattle.node.specs.Addresses.{is_local}
use Rattle.receiver.specs.declared.state.Receiver.{Receiver}
use Rattle.receiver.specs.Good.{Good}
use Rattle.receiver.specs.Hearing.{hearing}
use Rattle.receiver.specs.Passing.{Passes}

-- the octets forwarded, and the forward buffer
abbrev pub Forwards : Type 0
Forwards =
    (r : Receiver) (pdu fwd msg : List ℕ) (trials : ℕ) (h : Header)
    -- the receiver was set up, and has heard and said whatever since
    → Good r
    → Octets pdu
    → Passes r pdu fwd msg trials h
    → (let o = hearing r pdu fwd msg in
    let node = r.node in
    lent o.heard.forwarded o.forward
    ≡ (if forwards node.relay (is_local node h.dst) h then lent (length pdu) (onto (pdu_of (key_at node.materials h.key) (lowered h)) fwd) else
    lent 0 fwd))
