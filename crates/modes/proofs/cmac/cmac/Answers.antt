-- `modes::cmac::cmac` meets its contract: the blocks before the last are chained, and then the last.
-- Assumes nothing.
use Rattle.modes.proofs.CmacLaws.{cmac_ends}
use Rattle.modes.proofs.cmac.cmac.Goals as goal

pub returns : goal.returns
returns c =
    cmac_ends _ _ _ c.last_at-at.ensures c.chained-x.ensures c.last_block-last.ensures c.xor.ensures c.encrypt.ensures
