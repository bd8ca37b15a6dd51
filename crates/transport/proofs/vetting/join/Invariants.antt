-- `transport::vetting::join` meets its contract: what is laid so far and what stands behind the fronts of the PDUs that are left is the whole. Assumes nothing.
use Rattle.transport.specs.Listed.{pdus}
use Rattle.transport.specs.Vetting.{joined}
use Rattle.transport.proofs.VettingRules.{Laid}
use Rattle.transport.proofs.vetting.join.Given as goal

abbrev pub invariant-loop-p : goal.invariant-loop-p
invariant-loop-p l = Laid (joined (pdus l.list)) l.initial.out l.to (pdus l.p-iterator.rest.now) l.out
