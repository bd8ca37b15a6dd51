-- `addresses::is_listened` meets its contract: one of the groups that there are is the address.
-- Assumes nothing.
use Rattle.std.proofs.Common.{rules, tests, ◌∙◌, eqb}
use Rattle.std.proofs.lemmas.Iterator.{YieldsList-from_slice, YieldsList-from_take}
use Rattle.std.proofs.lemmas.Iterator.Search.{any_from_yields_List}
use Rattle.common.proofs.Searched.{any_of_first}
use Rattle.node.specs.Addresses.{listens, group_places}
use Rattle.node.proofs.addresses.is_listened.Goals as goal

pub returns : goal.returns
unfolding listens
returns c =
    let node = c.args.node in
    any_from_yields_List (λ g. eqb g c.args.address) _ _ _ c.any.ensures.ran (YieldsList-from_take node.listened (YieldsList-from_slice node.groups cc) cc)
    (λ x b q k. search (rules, tests))
    ∙ any_of_first (λ g. eqb g c.args.address) node.groups node.listened group_places (search rules)
