-- `speed::repeated` meets its contract: after n turns the block has been encrypted n times.
-- Assumes nothing.
use mathlib.Core.Path.{◌≡◌}
use Rattle.speed.specs.Blocks.{encrypted}
use Rattle.speed.proofs.repeated.Given as goal

abbrev pub invariant-loop : goal.invariant-loop
invariant-loop l = l.b ≡ encrypted l.counter l.ks l.initial.b
