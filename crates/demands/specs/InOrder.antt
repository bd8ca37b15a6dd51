-- Sent in full and heard in order is one of the schedules that demand 2 speaks of: segments 1 to SegN are made in order behind segment 0, and each PDU is heard once, in its order.
use Rattle.std.specs.Prelude.{true, List, ◌≡◌, ℕ, suc, ◌≤◌, length}
use Rattle.common.specs.Lists.{tab_from}
use Rattle.network.specs.Pdu.{pdu_octets}
use Rattle.transport.specs.Segment.{message_octets}
use Rattle.node.specs.declared.setup.Setup.{Setup}
use Rattle.receiver.specs.declared.state.Receiver.{Receiver}
use Rattle.sending.specs.declared.request.Request.{Request}
use Rattle.demands.specs.Call.{step}
use Rattle.demands.specs.GoesOut.{rest_of, outcomes}
use Rattle.demands.specs.Interleaved.{node_of, Each}
use Rattle.demands.specs.ReadBack.{say_call, said_by, made_of, seg_n_as, Made, Hearing, brings, OwnKeyFirst, Between, Telling}
use Rattle.demands.specs.Speech.{Words}

-- places 0 to n, each once
abbrev pub in_order : ℕ → (fwd msg : List ℕ) → List Hearing
in_order n fwd msg = tab_from (λ i. record { what = Made i; forward = fwd; message = msg }) 0 (suc n)

-- the premises of `ReadBack` are met, and each segment comes
pub record ToldInOrder (sender : Receiver) (setup : Setup) (q : Request) (words : Words) (buf fwd msg : List ℕ) : Type 0 where
  pub telling :
      Telling sender setup q words buf (rest_of sender q words buf) (in_order (seg_n_as (step sender (say_call q words buf)).answer) fwd msg)
  pub each_comes :
      (let seg_n = seg_n_as (step sender (say_call q words buf)).answer in
      (i : ℕ) → i ≤ seg_n → brings (made_of sender q words buf (rest_of sender q words buf)) i (in_order seg_n fwd msg) ≡ true)

abbrev pub InOrder : Type 0
InOrder =
    (sender : Receiver) (setup : Setup) (q : Request) (words : Words) (buf fwd msg : List ℕ)
    → Between sender setup q words → Each (λ o. o.made ≡ true) (outcomes sender q words buf)
    → Each (λ p. OwnKeyFirst (node_of setup) (said_by sender q words) p.pdu) (made_of sender q words buf (rest_of sender q words buf))
    → pdu_octets ≤ length fwd → message_octets ≤ length msg
    → ToldInOrder sender setup q words buf fwd msg
