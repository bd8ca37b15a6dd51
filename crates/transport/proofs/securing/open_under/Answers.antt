-- `transport::securing::open_under` meets its contract: for a DST that is not virtual the key alone is tried.
-- Assumes nothing.
use mathlib.Core.Path.{sym, ◌∙◌}
use Rattle.transport.proofs.SecuringLaws.{under_alone}
use Rattle.transport.proofs.securing.open_under.Goals as goal

pub returns : goal.returns
returns c =
    let a = c.args in
    let not = sym c.is_virtual.ensures ∙ c.if-is_virtual.false in
    under_alone a.held a.i a.e a.sealed.now a.out.now not c.open_by-opened.ensures c.then_some.ensures
