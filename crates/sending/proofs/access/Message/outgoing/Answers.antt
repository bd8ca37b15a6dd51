-- `sending::access::Message::outgoing` meets its contract: each field is what its call gives, and the secured message is as long as it is said to be.
use mathlib.Core.Path.{refl}
use Rattle.transport.proofs.SecureOpen.{secured_length}
use Rattle.sending.specs.Access.{outgoing_of}
use Rattle.sending.proofs.access.Message.outgoing.Goals as goal

pub returns : goal.returns
unfolding outgoing_of
returns c = rw (secured_length, c.last_segment.ensures, c.secured_len-len.ensures, c.access_octet.ensures, c.ttl_of.ensures, c.kept.ensures) refl
