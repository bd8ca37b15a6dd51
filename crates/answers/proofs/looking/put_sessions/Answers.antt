-- `looking::put_sessions` meets its contract: after some of the slots their text is written.
-- Assumes nothing.
use Rattle.answers.proofs.PlacedLaws.{placed_begun, placed_on}
use Rattle.answers.proofs.looking.put_sessions.Goals as goal

pub loop-slot-init : goal.loop-slot-init
loop-slot-init c = placed_begun _ _

pub loop-slot-preserved : goal.loop-slot-preserved
loop-slot-preserved c = placed_on _ _ _ _ _ _ _ c.loop-slot-test.true c.loop-slot.invariant c.put_session.ensures
