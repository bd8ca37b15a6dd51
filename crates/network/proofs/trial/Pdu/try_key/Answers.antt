-- `network::trial::Pdu::try_key` meets its contract: each answer is its law, and the body is the front of what the buffer holds.
-- Assumes nothing.
use Rattle.network.proofs.TrialLaws.{tried_rules}
use Rattle.network.proofs.trial.Pdu.try_key.Goals as goal

pub returns-then-too_short : goal.returns-then-too_short
returns-then-too_short c = search tried_rules

pub returns-then-not-open_body : goal.returns-then-not-open_body
returns-then-not-open_body c = search tried_rules

pub returns : goal.returns
returns c = search tried_rules
