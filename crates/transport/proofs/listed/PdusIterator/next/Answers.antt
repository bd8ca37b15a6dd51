-- `next` gives the first PDU of what is left, and leaves the others. Assumes nothing.
use native.Mathlib.Omega.{arith}
use lib.ListN.{length}
use mathlib.Core.Path.{ap}
use Rattle.transport.proofs.ListedLaws.{pdus_none, pdus_split}
use Rattle.transport.proofs.listed.PdusIterator.next.Goals as goal

pub returns-in_err-len-clause-steps : goal.returns-in_err-len-clause-steps
returns-in_err-len-clause-steps c =
    let none = pdus_none c.args.self.now.rest.now c.in_err-len.ensures.cases in
    rw c.from_residual.ensures (none, none)

pub returns-clause-steps : goal.returns-clause-steps
returns-clause-steps c = pdus_split c.in_ok-len.ensures.cases.0 (omega (arith, c.min.ensures)) c.split_at.ensures.front c.split_at.ensures.back

pub returns-clause-goes : goal.returns-clause-goes
returns-clause-goes c =
    let fewer = ap length (returns-clause-steps c) in
    record { on = λ _. (tt, tt, omega (arith, fewer)); keeps = tt; rests = λ _. tt }
