-- `network::sealing::write_body` meets its contract: the sealed body lies from octet 7 on, and what is behind it stays.
-- Assumes nothing.
use borrow.Author.Rules.{rules}
use Rattle.network.proofs.SealingLaws.{body_written}
use Rattle.network.proofs.sealing.write_body.Goals as goal

pub returns : goal.returns
returns c = search (body_written, rules)
