-- `aes::expand` meets its contract: before turn i the round keys below i stand in their places, and rc is the power of x that the next one has.
-- Assumes nothing.
-- the key stands in place 0 from the first turn on
use mathlib.Core.Path.{◌≡◌, refl, ap, ◌∙◌}
use mathlib.Core.List.{List, []}
use Prim.Native.Nat.{ℕ, ◌+◌, ◌-◌}
use native.Mathlib.Omega.{arith}
use borrow.Author.Rules.{rules}
use lib.ListN.{replicate}
use Rattle.common.proofs.Fill.{filled_none, filled_more, filled_all}
use Rattle.aes.specs.KeyExpansion.{x_power, round_key, key_schedule}
use Rattle.aes.proofs.KeyExpansion.{round_key_first, key_more, power_more}
use Rattle.aes.proofs.expand.Goals as goal

pub loop-i-init : goal.loop-i-init
unfolding x_power
loop-i-init c =
    let key = c.args.key in
    let first = round_key_first key c.well_formed.0.1.0.1 in
    let zeros : List (List ℕ) = replicate 11 (replicate 16 0) in
    (filled_more [] (round_key key) 11 zeros 0 key (filled_none [] (round_key key) 11 zeros refl) (search rules) first, refl)

pub loop-i-preserved : goal.loop-i-preserved
loop-i-preserved c =
    let l = c.loop-i in
    let key = c.args.key in
    let p = l.invariant in
    let before = p.0.2 (l.i - 1) (omega arith) in
    let next = key_more key l.i (search rules) p.1 before c.next_key.ensures in
    let back : l.i ≡ l.i + 1 - 1 = omega arith in (
      filled_more [] (round_key key) 11 l.ks l.i _ p.0 (search rules) next,
      power_more key l.i (search rules) p.1 c.twice-rc.ensures ∙ ap x_power back,
    )

pub returns : goal.returns
unfolding key_schedule
returns c =
    let l = c.loop-i in
    filled_all [] (round_key c.args.key) 11 _ l.i l.invariant.0 (omega arith)
