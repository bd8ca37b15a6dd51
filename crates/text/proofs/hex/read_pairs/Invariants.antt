-- `hex::read_pairs` meets its contract: before pair `i` the octets of the pairs in front of it are read.
-- Assumes nothing.
use mathlib.Core.Path.{◌≡◌}
use lib.ListN.{length}
use Rattle.text.proofs.HexLaws.{PairsRead}
use Rattle.text.proofs.hex.read_pairs.Given as goal

abbrev pub invariant-loop-i : goal.invariant-loop-i
invariant-loop-i l = (length l.out ≡ length l.initial.out) × PairsRead l.text l.initial.out l.out l.i
