-- `aes::expand` meets its contract: before turn i the round keys below i stand in their places, and rc is the power of x that the next one has.
-- Assumes nothing.
-- the key stands in place 0 from the first turn on
use mathlib.Core.Path.{◌≡◌}
use mathlib.Core.List.{[]}
use Prim.Native.Nat.{◌-◌}
use lib.ListN.{get_or}
use Rattle.common.proofs.Fill.{Filled}
use Rattle.aes.specs.KeyExpansion.{x_power, round_key}
use Rattle.aes.proofs.expand.Given as goal

abbrev pub invariant-loop-i : goal.invariant-loop-i
invariant-loop-i l = Filled [] (round_key (get_or l.initial.ks 0 [])) 11 l.ks l.i × (l.rc ≡ x_power (l.i - 1))
