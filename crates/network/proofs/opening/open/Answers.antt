-- `network::opening::open` meets its contract: each return is one answer of `opening`, and the tests before it say which. That there is no candidate
-- is learnt from there being no trials. Assumes nothing.
use Rattle.network.proofs.OpeningLaws.{open_rules}
use Rattle.network.proofs.opening.open.Goals as goal

pub returns-then-pdu-lt14 : goal.returns-then-pdu-lt14
returns-then-pdu-lt14 c = search open_rules

pub returns-then-pdu-gt-PDU : goal.returns-then-pdu-gt-PDU
returns-then-pdu-gt-PDU c = search open_rules

pub returns-in_default : goal.returns-in_default
returns-in_default c = search open_rules

pub returns-then-s-eq0 : goal.returns-then-s-eq0
returns-then-s-eq0 c = search open_rules

pub returns : goal.returns
returns c = search open_rules
