-- `setup::is_bound` meets its contract: all of the application keys that there are are bound to network keys that there are.
-- Assumes nothing.
use Rattle.std.proofs.Common.{rules, tests, arith, ◌≡◌, ◌∙◌, ltb, length}
use Rattle.std.proofs.lemmas.Iterator.{YieldsList-from_slice, YieldsList-from_take}
use Rattle.std.proofs.lemmas.Iterator.Search.{all_from_yields_List}
use Rattle.common.proofs.Lists.{length_mapped}
use Rattle.transport.specs.Securing.{application_key_places}
use Rattle.node.specs.declared.setup.BoundKey.{BoundKey}
use Rattle.node.specs.Setup.{bound_within}
use Rattle.node.proofs.EveryLaws.{all_every}
use Rattle.node.proofs.setup.is_bound.Goals as goal

pub returns : goal.returns
unfolding bound_within
returns c =
    let s = c.args.s in
    let long : length s.appkeys ≡ application_key_places = search (rules, length_mapped) in
    all_from_yields_List (λ (b : BoundKey). ltb b.network s.networks) _ _ _ c.all.ensures.ran
    (YieldsList-from_take s.applications (YieldsList-from_slice s.appkeys cc) cc) (λ x b q k. search (rules, tests))
    ∙ all_every (λ (b : BoundKey). ltb b.network s.networks) s.appkeys s.applications (omega arith)
