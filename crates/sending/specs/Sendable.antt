-- What holds of an outgoing message that is kept: it is allowed as an upper transport PDU in segments, and SegN is that of its length.
--   kept_octets o   what is kept of it
--   Sendable o      what holds of it
use Rattle.std.specs.Prelude.{List, ◌≡◌, ℕ, ◌%◌, length, take}
use Rattle.transport.specs.Segment.{message_octets, full_octets, last_segment}
use Rattle.transport.specs.Vetting.{Allowed}
use Rattle.memory.specs.declared.outgoing.Outgoing.{Outgoing}

-- the first octets of 384: the secured payload, or the parameters
abbrev pub kept_octets : Outgoing → List ℕ
kept_octets o = take o.len o.bytes

pub record Sendable (o : Outgoing) : Type 0 where
  pub octets_places : length o.bytes ≡ message_octets
  pub len_is : length (kept_octets o) ≡ o.len
  pub allowed : Allowed o.terms.ctl o.terms.first o.terms.szmic (o.auth.seq % 8192) (kept_octets o)
  pub seg_n_is : o.terms.segn ≡ last_segment (full_octets o.terms.ctl) (length (kept_octets o))
