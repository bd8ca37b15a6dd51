-- `transport::vetting::vet` meets its contract: what is joined is the whole. Assumes nothing.
use Rattle.transport.proofs.VetRules.{vet_whole}
use Rattle.transport.proofs.vetting.vet.Goals as goal

pub returns : goal.returns
returns c =
    let a = c.args in
    vet_whole a.ctl a.list.now a.out.now c.if-out-lt-MESSAGE.false _ c.judge.ensures _ c.in_ok-judge.was _ _ c.join.ensures
