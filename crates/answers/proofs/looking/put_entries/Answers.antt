-- `looking::put_entries` meets its contract: after some of the places their text is written.
-- Assumes nothing.
use Rattle.answers.proofs.PlacedLaws.{placed_begun, placed_on}
use Rattle.answers.proofs.looking.put_entries.Goals as goal

pub loop-e-init : goal.loop-e-init
loop-e-init c = placed_begun _ _

pub loop-e-preserved : goal.loop-e-preserved
loop-e-preserved c = placed_on _ _ _ _ _ _ _ c.loop-e-test.true c.loop-e.invariant c.put_seen.ensures
