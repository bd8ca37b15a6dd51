-- `memory::replay::shift` meets its contract: place by place the list is what it is to be.
-- Assumes nothing.
use borrow.Author.Rules.{rules}
use Rattle.common.proofs.Fill.{filled_all}
use Rattle.memory.proofs.replay.shift.Goals as goal

pub returns : goal.returns
returns c = search (filled_all, rules)
