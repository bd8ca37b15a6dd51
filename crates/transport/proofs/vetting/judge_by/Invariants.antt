-- `transport::vetting::judge_by` meets its contract: the judgement of all PDUs is that of those that are left, of which the first is PDU k. Assumes nothing.
use mathlib.Core.Path.{◌≡◌}
use Prim.Native.Nat.{◌+◌, ◌≤◌}
use lib.ListN.{length}
use Rattle.transport.specs.Listed.{pdus}
use Rattle.transport.specs.Vetting.{judged_from}
use Rattle.transport.proofs.vetting.judge_by.Given as goal

abbrev pub invariant-loop-p : goal.invariant-loop-p
invariant-loop-p l =
    let left = pdus l.p-iterator.rest.now in
    (l.k + length left ≤ length l.list) × (judged_from l.ctl l.s 0 (pdus l.list) ≡ judged_from l.ctl l.s l.k left)
