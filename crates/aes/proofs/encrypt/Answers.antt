-- `aes::encrypt` meets its contract: before turn i the state is that after i - 1 rounds, of which the tenth is the last.
-- Assumes nothing.
use Rattle.std.proofs.Common.{arith}
use Rattle.aes.proofs.Rounds.{turned_none, turned_more, turned_all}
use Rattle.aes.proofs.encrypt.Goals as goal

pub loop-i-init : goal.loop-i-init
loop-i-init c = turned_none _ _

pub loop-i-preserved : goal.loop-i-preserved
loop-i-preserved c =
    let l = c.loop-i in
    turned_more _ _ l.i (omega arith) l.invariant c.any_round-next.ensures

pub returns : goal.returns
returns c = let l = c.loop-i in turned_all _ _ _ l.i (omega arith) c.add_round_key-s.ensures l.invariant
