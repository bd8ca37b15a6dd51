-- `input::take_block` meets its contract: what comes of the rest of the block is what comes of all of it. No call changes the length of a buffer,
-- and what is left of the block falls.
-- Assumes nothing.
use mathlib.Core.Path.{◌≡◌}
use Prim.Native.Nat.{◌-◌}
use lib.ListN.{length, take, drop}
use Rattle.common.specs.Lent.{lent}
use Rattle.console.specs.Step.{console}
use Rattle.console.specs.Input.{reader, reads_all}
use Rattle.console.proofs.input.take_block.Given as goal

abbrev pub invariant-loop-at : goal.invariant-loop-at
invariant-loop-at l =
    (length l.line ≡ length l.initial.line) × (length l.octets ≡ length l.initial.octets) × (length l.out ≡ length l.initial.out)
    × (reads_all (length l.initial.line) (reader (console l.desk l.receiver) (take l.gathered l.line) l.octets (lent l.written l.out)) (drop l.at l.block)
    ≡ reads_all (length l.initial.line) (reader (console l.initial.desk l.initial.receiver) (take l.initial.gathered l.initial.line) l.initial.octets (lent l.initial.written l.initial.out)) l.block)

abbrev pub decreases-loop-at : goal.decreases-loop-at
decreases-loop-at l = length l.block - l.at
