-- The outgoing segmented message, and the acknowledgements of it that are heard (document 01, "Sending").
--   fits_outgoing out h obo seq_zero        DST is the sending element, SeqZero fits, and SRC is the destination or OBO is 1
--   acknowledging out h obo seq_zero bits   what an acknowledgement leaves of the message
use Rattle.std.specs.Prelude.{Bool, ◌&&◌, ◌||◌, not, ℕ, ◌%◌, eqb, replicate, if◌then◌else◌}
use Rattle.std.specs.Int.Bits.{bit_and, bit_or}
use Rattle.common.specs.Bits.{all_bits}
use Rattle.network.specs.declared.header.Header.{Header}
use Rattle.transport.specs.Segment.{message_octets}
use Rattle.memory.specs.declared.outgoing.Outgoing.{Outgoing}
use Rattle.memory.specs.declared.outgoing.Acknowledged.{Acknowledged}
use Rattle.memory.specs.declared.outgoing.Effect.{Effect}
use Rattle.memory.specs.declared.outgoing.Effect.TheVariants.{Nothing, Marked, Completed, Cancelled}
use Rattle.memory.specs.Pair.{no_pair}
use Rattle.memory.specs.Session.{no_terms}

-- nothing is kept: zeros
abbrev pub no_outgoing : Outgoing
no_outgoing = record { src = 0; auth = no_pair; terms = no_terms; ttl = 0; heard = 0; len = 0; bytes = replicate message_octets 0 }

-- a message is kept, DST is the sending element, SeqZero fits, and SRC is the destination or OBO is 1
unfoldable pub fits_outgoing : Outgoing → Header → Bool → ℕ → Bool
fits_outgoing out h obo seq_zero =
    not (eqb out.src 0) && (eqb h.dst out.src && (eqb seq_zero (out.auth.seq % 8192) && (obo || eqb h.src out.terms.dst)))

-- a BlockAck marks segments as heard; bits above SegN are ignored
unfoldable pub heard_with : Outgoing → ℕ → ℕ
heard_with out bits = bit_or out.heard (bit_and bits (all_bits out.terms.segn))

-- the message with other segments heard
abbrev pub with_heard : Outgoing → ℕ → Outgoing
with_heard out heard =
    record { src = out.src; auth = out.auth; terms = out.terms; ttl = out.ttl; heard = heard; len = out.len; bytes = out.bytes }

abbrev pub effected : Effect → Outgoing → Acknowledged
effected e out = record { effect = e; out = out }

-- one that fits nothing marks nothing; one with all 32 bits zero cancels; when all is heard the message is no longer kept
unfoldable pub acknowledging : Outgoing → Header → Bool → ℕ → ℕ → Acknowledged
acknowledging out h obo seq_zero bits =
    let heard = heard_with out bits in
    if fits_outgoing out h obo seq_zero then
    (if eqb bits 0 then effected Cancelled no_outgoing else
    if eqb heard (all_bits out.terms.segn) then effected Completed no_outgoing else
    if eqb heard out.heard then effected Nothing out else
    effected Marked (with_heard out heard)) else
    effected Nothing out
