-- `sending::access::Message::whole_pdu` meets its contract: octet 0 and what was secured stand in sixteen zeros.
use borrow.Author.Rules.{rules}
use Rattle.sending.specs.Access.{whole_pdu}
use Rattle.sending.proofs.Secured.{secured_whole}
use Rattle.sending.proofs.access.Message.whole_pdu.Goals as goal

pub returns : goal.returns
unfolding whole_pdu
returns c = search (secured_whole, rules)
