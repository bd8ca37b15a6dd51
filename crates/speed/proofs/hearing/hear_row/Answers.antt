-- `speed::hearing::hear_row` meets its contract: each turn hears the PDU that is cut off what is left of the row.
-- Assumes nothing.
use native.Mathlib.Omega.{arith}
use lib.ListN.{length}
use Rattle.std.proofs.Common.{rules, ◌∙◌}
use Rattle.std.proofs.lemmas.List.{length_push}
use Rattle.speed.proofs.Row.{next_is, row_more}
use Rattle.speed.proofs.hearing.hear_row.Goals as goal

pub loop-pdu-preserved : goal.loop-pdu-preserved
loop-pdu-preserved c =
    let l = c.loop-pdu in
    let (sized, behind, _, few, long, heard) = l.invariant in
    let pdus = c.args.pdus.now in
    let k = length l.yielded in
    let (same, (cut, octets), _) = c.in-Some.ensures.steps in
    let (next, rest, within) = next_is pdus k _ _ behind cut (octets ∙ sized) in
    let more = row_more _ _ _ k heard next c.hear-h.ensures c.accept-count.ensures.exact in
    rw (length_push l.yielded c.in-Some.pdu) (same ∙ sized, rest, within, omega arith, search rules, more)
