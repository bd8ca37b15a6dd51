-- `network::sealing::seal` meets its contract: each answer follows from the tests before it, and what is written is the whole PDU.
-- Assumes nothing.
use borrow.Author.Rules.{rules}
use Rattle.network.proofs.SealingLaws.{length_body_written, seal_most, seal_nid, seal_len, seal_written}
use Rattle.network.proofs.sealing.seal.Goals as goal

pub write_body-requires : goal.write_body-requires
write_body-requires c = search seal_most

pub write_front-requires : goal.write_front-requires
write_front-requires c = search (seal_nid, length_body_written)

pub pdu_len-requires : goal.pdu_len-requires
pdu_len-requires c = search seal_len

pub returns : goal.returns
returns c = search (seal_written, rules)
