-- `modes::chain::chained` meets its contract: what is chained so far, with the blocks still to come, makes the whole.
-- Assumes nothing.
use mathlib.Core.Path.{refl}
use native.Mathlib.Omega.{arith}
use borrow.Author.Rules.{rules}
use Rattle.modes.proofs.Blocks.{chain_more, chain_all}
use Rattle.modes.proofs.chain.chained.Goals as goal

pub loop-at-init : goal.loop-at-init
loop-at-init c = (search rules, (refl, refl))

pub loop-at-preserved : goal.loop-at-preserved
loop-at-preserved c =
    let l = c.loop-at in
    (omega arith, chain_more _ _ l.at _ l.x l.invariant.1 (search rules) c.xor_at.ensures c.encrypt-y.ensures)

pub returns : goal.returns
returns c = let l = c.loop-at in chain_all _ _ l.at _ l.x l.invariant.1 c.loop-at-test.false l.invariant.0
