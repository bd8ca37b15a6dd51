-- `sending::control::Message::outgoing` meets its contract: each field is what its call gives.
use mathlib.Core.Path.{refl}
use Rattle.sending.specs.Control.{outgoing_of}
use Rattle.sending.proofs.control.Message.outgoing.Goals as goal

pub returns : goal.returns
unfolding outgoing_of
returns c =
    rw (c.address_of.ensures, c.iv_of.ensures, c.control_octet.ensures, c.last_segment.ensures, c.dst_of.ensures, c.ttl_of.ensures, c.kept.ensures) refl
