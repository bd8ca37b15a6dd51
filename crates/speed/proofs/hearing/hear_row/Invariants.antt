-- `speed::hearing::hear_row` meets its contract: after k turns receiver, count and message buffer are those of k PDUs, what is left of the row is what
-- stands behind these, and a turn counts at most 1.
-- Assumes nothing.
use mathlib.Core.Path.{◌≡◌}
use Prim.Native.Nat.{◌*◌, ◌≤◌}
use lib.ListN.{length, drop}
use Rattle.std.specs.Slice.Iter.{chunks_exact_rest, chunks_exact_size}
use Rattle.network.specs.Pdu.{pdu_octets}
use Rattle.speed.specs.Hearing.{row, heard_row}
use Rattle.speed.proofs.hearing.hear_row.Given as goal

abbrev pub invariant-loop-pdu : goal.invariant-loop-pdu
invariant-loop-pdu l =
    (chunks_exact_size l.pdu-iterator ≡ pdu_octets)
    × (chunks_exact_rest l.pdu-iterator ≡ drop (pdu_octets * length l.yielded) l.pdus)
    × (pdu_octets * length l.yielded ≤ length l.pdus)
    × (l.count ≤ length l.yielded)
    × (length l.message ≡ length l.initial.message)
    × (row l.receiver l.count l.message ≡ heard_row l.initial.receiver l.pdus l.initial.message (length l.yielded))
