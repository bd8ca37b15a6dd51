-- `setup::groups_within` meets its contract: all of the addresses that are listened to are group addresses.
-- Assumes nothing.
use Rattle.std.proofs.Common.{rules, tests, arith, ◌≡◌, ◌∙◌, length}
use Rattle.std.proofs.lemmas.Iterator.{YieldsList-from_slice, YieldsList-from_take}
use Rattle.std.proofs.lemmas.Iterator.Search.{all_from_yields_List}
use Rattle.node.specs.Addresses.{group_places}
use Rattle.node.specs.Setup.{is_group}
use Rattle.node.proofs.EveryLaws.{all_every}
use Rattle.node.proofs.setup.groups_within.Goals as goal

pub returns : goal.returns
returns c =
    let s = c.args.s in
    let long : length s.groups ≡ group_places = search rules in
    all_from_yields_List is_group _ _ _ c.all.ensures.ran (YieldsList-from_take s.listened (YieldsList-from_slice s.groups cc) cc)
    (λ x b q k. search (rules, tests))
    ∙ all_every is_group s.groups s.listened (omega arith)
