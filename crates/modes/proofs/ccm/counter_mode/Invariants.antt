-- `modes::ccm::counter_mode` meets its contract: each octet is xored with its own of the stream, whose block is made anew where it begins.
-- Assumes nothing.
use mathlib.Core.Path.{◌≡◌}
use mathlib.Core.List.{List}
use Prim.Native.Nat.{ℕ, ◌+◌, ◌/◌, ◌%◌}
use lib.Bits.{bit_xor}
use lib.ListN.{length, get_or}
use Rattle.common.proofs.Fill.{Filled}
use Rattle.modes.specs.Ccm.{stream, stream_octet}
use Rattle.modes.proofs.ccm.counter_mode.Given as goal

-- the octet at j
abbrev pub at_place : List (List ℕ) → List ℕ → List ℕ → ℕ → ℕ
at_place ks nonce src j = bit_xor (get_or src j 0) (stream_octet ks nonce j)

abbrev pub invariant-loop-j : goal.invariant-loop-j
invariant-loop-j l =
    Filled 0 (at_place l.ks l.nonce l.src) (length l.src) l.dst l.j × ((l.j % 16 ≡ 0 → ⊥) → l.s ≡ stream l.ks l.nonce (l.j / 16 + 1))
