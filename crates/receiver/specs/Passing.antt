-- What a PDU passes before it is cached, perhaps forwarded, and taken (document 01, "Numbers of the refusals"; document 02, W5).
--   Opens r pdu fwd msg trials h    refusals 16 and 1 to 4: it opens to header h, so many network keys being tried
--   Ours r pdu fwd msg trials h     and is stopped by 22
--   Passes r pdu fwd msg trials h   and passes 22 and 5
use Rattle.std.specs.Prelude.{true, false, Ok, List, ◌≡◌, ℕ, ◌≤◌, length}
use Rattle.network.specs.declared.header.Header.{Header}
use Rattle.network.specs.Opening.{opening}
use Rattle.network.specs.Pdu.{pdu_octets}
use Rattle.transport.specs.Segment.{message_octets}
use Rattle.memory.specs.Cache.{seen}
use Rattle.node.specs.Addresses.{is_local}
use Rattle.receiver.specs.declared.state.Receiver.{Receiver}

-- the buffers are long enough, and the PDU opens to h
pub record Opens (r : Receiver) (pdu fwd msg : List ℕ) (trials : ℕ) (h : Header) : Type 0 where
  pub wide : pdu_octets ≤ length fwd
  pub big : message_octets ≤ length msg
  pub opens : opening r.node.materials r.node.networks r.node.iv pdu ≡ record { trials = trials; opened = Ok h }

pub record Ours (r : Receiver) (pdu fwd msg : List ℕ) (trials : ℕ) (h : Header) : Type 0 where
  pub opened : Opens r pdu fwd msg trials h
  -- SRC is one of our elements
  pub own : is_local r.node h.src ≡ true

pub record Passes (r : Receiver) (pdu fwd msg : List ℕ) (trials : ℕ) (h : Header) : Type 0 where
  pub opened : Opens r pdu fwd msg trials h
  -- SRC is none of our elements
  pub other : is_local r.node h.src ≡ false
  -- no entry of the cache has its SRC, SEQ and IV Index
  pub new : seen r.cache h ≡ false
