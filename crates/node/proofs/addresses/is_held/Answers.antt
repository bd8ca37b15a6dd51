-- `addresses::is_held` meets its contract: one of the labels that there are has the address.
-- Assumes nothing.
use Rattle.std.proofs.Common.{rules, tests, ◌∙◌, eqb}
use Rattle.std.proofs.lemmas.Iterator.{YieldsList-from_slice, YieldsList-from_take}
use Rattle.std.proofs.lemmas.Iterator.Search.{any_from_yields_List}
use Rattle.common.proofs.Lists.{length_mapped}
use Rattle.common.proofs.Searched.{any_of_first}
use Rattle.transport.specs.declared.securing.LabelUuid.{LabelUuid}
use Rattle.transport.specs.Securing.{label_places}
use Rattle.node.specs.Addresses.{holds_label}
use Rattle.node.proofs.addresses.is_held.Goals as goal

pub returns : goal.returns
unfolding holds_label
returns c =
    let node = c.args.node in
    any_from_yields_List (λ (l : LabelUuid). eqb l.address c.args.address) _ _ _ c.any.ensures.ran
    (YieldsList-from_take node.labelled (YieldsList-from_slice node.labels cc) cc) (λ x b q k. search (rules, tests))
    ∙ any_of_first (λ (l : LabelUuid). eqb l.address c.args.address) node.labels node.labelled label_places (search (rules, length_mapped))
