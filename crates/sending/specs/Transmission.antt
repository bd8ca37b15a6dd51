-- A transmission (document 01, "Sending"): 15, or a PDU with the element's next SEQ, which is then used.
--   sending_iv node               the IV Index that is sent with
--   address_of node element       an element's address
--   next_seq r element            its next SEQ
--   transmitted r element h buf   what a transmission leaves
use Rattle.std.specs.Prelude.{Result, Ok, Err, List, ℕ, ◌+◌, ◌%◌, ltb, get_or, set, if◌then◌else◌}
use Rattle.common.specs.Lent.{Lent, lent}
use Rattle.network.specs.declared.header.Header.{Header}
use Rattle.network.specs.declared.sealing.Refusal as sealing_refusal
use Rattle.network.specs.Candidates.{network_key_places, key_at}
use Rattle.network.specs.IvIndex.{iv_index_sent}
use Rattle.network.specs.Sealing.{sealing}
use Rattle.node.specs.declared.addresses.Node.{Node}
use Rattle.receiver.specs.declared.answer.Refusal.{Refusal}
use Rattle.receiver.specs.declared.answer.Refusal.TheVariants as refusal
use Rattle.receiver.specs.declared.state.Receiver.{Receiver}
use Rattle.sending.specs.declared.transmission.Transmitted.{Transmitted}

-- the current one, or with the flag set the one before
unfoldable pub sending_iv : Node → ℕ
sending_iv node = iv_index_sent node.iv node.flag

-- elements have consecutive addresses, of 16 bits
unfoldable pub address_of : Node → ℕ → ℕ
address_of node element = (node.first + element % 65536) % 65536

-- an element's next SEQ
abbrev pub next_seq : Receiver → ℕ → ℕ
next_seq r element = get_or r.next element 0

-- every transmission takes a new SEQ of its element
unfoldable pub with_next : Receiver → ℕ → Receiver
with_next r element =
    record { node = r.node; next = set r.next element (next_seq r element + 1); cache = r.cache; replay = r.replay; sessions = r.sessions; out = r.out }

-- the header with the element's next SEQ and address
unfoldable pub stamped : Receiver → ℕ → Header → Header
stamped r element h =
    record {
      key = h.key;
      iv = h.iv;
      ctl = h.ctl;
      ttl = h.ttl;
      seq = next_seq r element;
      src = address_of r.node element;
      dst = h.dst;
      len = h.len;
      transport = h.transport;
    }

-- a refusal
abbrev pub no_transmission : Refusal → Receiver → Transmitted
no_transmission n r = record { sent = Err n; receiver = r }

-- sent, and the SEQ is used; or nothing is
unfoldable pub sent_as : Result ℕ sealing_refusal.Refusal → Receiver → ℕ → Transmitted
sent_as (Ok n) r element = record { sent = Ok n; receiver = with_next r element }
sent_as (Err e) r element = no_transmission refusal.OutsideRules r

-- 15: the transmission needs an SEQ above 0xFFFFFF; else the PDU fills the first octets of the buffer
unfoldable pub transmitted : Receiver → ℕ → Header → List ℕ → Lent Transmitted
transmitted r element h buf =
    let s = sealing (key_at r.node.materials h.key) (stamped r element h) buf in
    if ltb 0xFFFFFF (next_seq r element) then lent (no_transmission refusal.NoSeqLeft r) buf else
    if ltb h.key network_key_places then lent (sent_as s.answer r element) s.buffer else
    lent (no_transmission refusal.OutsideRules r) buf
