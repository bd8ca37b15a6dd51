-- `setup::next_within` meets its contract: all of the next SEQs that there are are within their bound.
-- Assumes nothing.
use Rattle.std.proofs.Common.{rules, tests, arith, ◌≡◌, ◌∙◌, length}
use Rattle.std.proofs.lemmas.Iterator.{YieldsList-from_slice, YieldsList-from_take}
use Rattle.std.proofs.lemmas.Iterator.Search.{all_from_yields_List}
use lib.Dec.{leb}
use Rattle.node.specs.Addresses.{element_places}
use Rattle.node.specs.Setup.{next_within}
use Rattle.node.proofs.EveryLaws.{all_every}
use Rattle.node.proofs.setup.next_within.Goals as goal

pub returns : goal.returns
unfolding next_within
returns c =
    let s = c.args.s in
    let long : length s.next ≡ element_places = search rules in
    all_from_yields_List (λ q. leb q 0x1000000) _ _ _ c.all.ensures.ran
    (YieldsList-from_take s.elements (YieldsList-from_slice s.next cc) cc) (λ x b q k. search (rules, tests))
    ∙ all_every (λ q. leb q 0x1000000) s.next s.elements (omega arith)
