-- `site::setting::node` meets its contract: it is the receiver that setup answers.
-- Assumes nothing.
use Rattle.site.proofs.setting.node.Goals as goal

pub returns : goal.returns
returns c = cc
