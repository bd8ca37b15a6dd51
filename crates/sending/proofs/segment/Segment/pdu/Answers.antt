-- `sending::segment::Segment::pdu` meets its contract: the four octets in front and the chunk are copied onto zeros, one behind the other.
use borrow.Author.Rules.{rules}
use Rattle.sending.proofs.Octets.{pdu_written}
use Rattle.sending.proofs.segment.Segment.pdu.Goals as goal

pub returns : goal.returns
returns c = search (pdu_written, rules)
