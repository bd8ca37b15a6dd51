-- `input::gather` meets its contract: the octets up to a newline, or to the end of the block, are put behind those gathered before.
-- Assumes nothing.
use native.Mathlib.Omega.{arith}
use borrow.Author.Rules.{rules}
use Rattle.console.proofs.InputLaws.{gathers_whole, gathers_part}
use Rattle.console.proofs.input.gather.Goals as goal

pub returns-then-end-block : goal.returns-then-end-block
returns-then-end-block c =
    record { further = search rules; gathers = gathers_whole _ _ _ _ _ _ _ _ c.until-end.ensures.value c.first.ensures c.put-more.ensures (omega arith) }

pub returns : goal.returns
returns c =
    record { further = search rules; gathers = gathers_part _ _ _ _ _ _ _ _ c.until-end.ensures.value c.first.ensures c.put-more.ensures (omega arith) }
