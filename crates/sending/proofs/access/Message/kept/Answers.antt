-- `sending::access::Message::kept` meets its contract: the message is secured onto 384 zeros.
use borrow.Author.Rules.{rules}
use Rattle.sending.proofs.Secured.{secured_padded}
use Rattle.sending.proofs.access.Message.kept.Goals as goal

pub returns : goal.returns
returns c = search (secured_padded, rules)
