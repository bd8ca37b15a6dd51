-- `network::trial::header_of` meets its contract: each field is that of `header_of`, and the transport is copied onto zeros.
-- Assumes nothing.
use Rattle.network.proofs.TrialLaws.{header_read}
use Rattle.network.proofs.trial.header_of.Goals as goal

pub returns : goal.returns
returns c = search header_read
