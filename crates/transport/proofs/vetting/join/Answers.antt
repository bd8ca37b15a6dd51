-- `transport::vetting::join` meets its contract: what is laid so far and what stands behind the fronts of the PDUs that are left is the whole. Assumes nothing.
use Rattle.transport.proofs.VettingRules.{laid_room, laid_more, laid_all}
use Rattle.transport.proofs.vetting.join.Goals as goal

pub lay-requires : goal.lay-requires
lay-requires c =
    rw c.behind_front-octets.ensures
    (laid_room _ _ c.loop-p.out c.in-Some.p.now c.loop-p.to _ _ c.loop-p.invariant c.in-Some.ensures.steps c.requires)

pub loop-p-preserved : goal.loop-p-preserved
loop-p-preserved c =
    rw c.behind_front-octets.ensures
    (laid_more _ _ c.loop-p.out c.in-Some.p.now c.loop-p.to _ _ c.loop-p.invariant c.in-Some.ensures.steps c.requires _
    (rw (← c.behind_front-octets.ensures) c.lay.ensures))

pub returns : goal.returns
returns c = laid_all _ _ c.loop-p.out c.loop-p.to _ c.loop-p.invariant c.in-None.ensures.steps.0
