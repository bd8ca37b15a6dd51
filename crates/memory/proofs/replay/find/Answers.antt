-- `memory::replay::find` meets its contract: the search from low to high is the search of all, and behind the last place nothing stands. The measure is what is left between them.
-- Assumes nothing.
use mathlib.Core.Path.{refl, sym, ◌∙◌}
use native.Mathlib.Omega.{arith}
use Rattle.common.proofs.Halving.{halving_start, halving_up, halving_down, halving_ends}
use Rattle.memory.specs.Replay.{entry_place}
use Rattle.memory.proofs.ReplayLaws.{find_there, find_past}
use Rattle.memory.proofs.replay.find.Goals as goal

pub loop-low-init : goal.loop-low-init
loop-low-init c = (halving_start _ _ _ _, c.well_formed.0.1.0.1)

pub loop-low-preserved-then-is_before : goal.loop-low-preserved-then-is_before
loop-low-preserved-then-is_before c =
    let inv = c.loop-low.invariant in
    (halving_up _ _ _ _ _ _ inv.0 c.loop-low-test.true (sym c.is_before.ensures ∙ c.if-is_before.true), inv.1)

pub loop-low-preserved : goal.loop-low-preserved
loop-low-preserved c =
    let inv = c.loop-low.invariant in
    (halving_down _ _ _ _ _ _ inv.0 c.loop-low-test.true (sym c.is_before.ensures ∙ c.if-is_before.false), inv.1)

pub returns-then-low-lt-ENTRIES : goal.returns-then-low-lt-ENTRIES
unfolding entry_place
returns-then-low-lt-ENTRIES c =
    find_there c.args.replay c.args.src _ (halving_ends _ _ _ _ _ _ c.loop-low.invariant.0 c.loop-low-test.false) refl

pub returns : goal.returns
unfolding entry_place
returns c =
    let inv = c.loop-low.invariant in
    find_past c.args.replay c.args.src c.loop-low.low (halving_ends _ _ _ _ _ _ inv.0 c.loop-low-test.false) (omega (arith, inv.1)) c.none.ensures
