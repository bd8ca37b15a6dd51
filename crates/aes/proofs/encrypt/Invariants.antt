-- `aes::encrypt` meets its contract: before turn i the state is that after i - 1 rounds, of which the tenth is the last.
-- Assumes nothing.
use mathlib.Core.Path.{◌≡◌}
use Prim.Native.Nat.{◌-◌}
use Rattle.aes.proofs.Rounds.{turned}
use Rattle.aes.proofs.encrypt.Given as goal

abbrev pub invariant-loop-i : goal.invariant-loop-i
invariant-loop-i l = l.s ≡ turned l.ks l.initial.s (l.i - 1)
