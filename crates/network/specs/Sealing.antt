-- Sealing one Network PDU into a lent buffer, and forwarding (document 01, "The Network PDU", "Forwarding").
--   paper a                  how an answer is given; PaperApart: no two alike
--   sealing key h buf        what a call leaves
--   forwards relay local h   whether a PDU is forwarded
--   forwarding keys h buf    what a call that forwards it leaves
use Rattle.std.specs.Prelude.{Bool, ◌&&◌, not, Result, Ok, Err, List, [], ◌∷◌, ℕ, ◌-◌, leb, ltb, length, if◌then◌else◌}
use Rattle.common.specs.Lists.{onto}
use Rattle.common.specs.Lent.{Lent, lent}
use Rattle.common.specs.Paper.{Paper, Refusal, Given, ToldApart}
use Rattle.keys.specs.declared.NetworkKeys.{NetworkKeys}
use Rattle.network.specs.declared.header.Header.{Header}
use Rattle.network.specs.declared.sealing.Refusal as refusal
use Rattle.network.specs.declared.sealing.Refusal.TheVariants.{OutsideRules, ShortBuffer}
use Rattle.network.specs.Address.{addresses_allowed}
use Rattle.network.specs.Candidates.{network_key_places, key_at}
use Rattle.network.specs.Pdu.{pdu_octets, pdu_of}

-- this paper's number and values of each answer: the octets of the PDU
pub data Word : Type 0 where
  sealed : Word

abbrev pub paper : Result ℕ refusal.Refusal → Paper Word
paper (Ok len) = Given sealed (len ∷ [])
paper (Err OutsideRules) = Refusal 14 []
paper (Err ShortBuffer) = Refusal 16 []

abbrev pub PaperApart : Type 0
PaperApart = ToldApart paper

-- the octets of the PDU
abbrev pub sealed_length : Result ℕ refusal.Refusal → ℕ
sealed_length (Ok len) = len
sealed_length (Err r) = 0

-- the most octets of transport: 16, or 12 if CTL is 1
abbrev pub most_transport : Bool → ℕ
most_transport ctl = if ctl then 12 else 16

-- NID of 7 bits, TTL to 127, SEQ to 0xFFFFFF, allowed addresses, 1 to 16 octets of transport (1 to 12 if CTL is 1)
unfoldable pub sealable : NetworkKeys → Header → Bool
sealable key h =
    leb key.nid 127 && leb h.ttl 127 && leb h.seq 0xFFFFFF && addresses_allowed h.ctl h.src h.dst
    && leb 1 h.len && leb h.len (most_transport h.ctl)

-- 16: the buffer is shorter than 29; 14: outside these rules; else the PDU fills its first octets
unfoldable pub sealing : NetworkKeys → Header → List ℕ → Lent (Result ℕ refusal.Refusal)
sealing key h buf =
    if ltb (length buf) pdu_octets then lent (Err ShortBuffer) buf else
    if sealable key h then lent (Ok (length (pdu_of key h))) (onto (pdu_of key h) buf) else
    lent (Err OutsideRules) buf

-- forwarded exactly when relay is on, TTL is at least 2 and DST is no local unicast address
unfoldable pub forwards : Bool → Bool → Header → Bool
forwards relay local h = relay && leb 2 h.ttl && not local

-- TTL falls by 1; key and IV Index stay
abbrev pub lowered : Header → Header
lowered h =
    record { key = h.key; iv = h.iv; ctl = h.ctl; ttl = h.ttl - 1; seq = h.seq; src = h.src; dst = h.dst; len = h.len; transport = h.transport }

-- the PDU resealed by the key at its place, with TTL less 1, a TTL of 0 as it is; 16 comes before a place that holds no key, 14
unfoldable pub forwarding : List NetworkKeys → Header → List ℕ → Lent (Result ℕ refusal.Refusal)
forwarding keys h buf =
    if ltb (length buf) pdu_octets then lent (Err ShortBuffer) buf else
    if ltb h.key network_key_places then sealing (key_at keys h.key) (lowered h) buf else
    lent (Err OutsideRules) buf
