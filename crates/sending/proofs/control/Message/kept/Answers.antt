-- `sending::control::Message::kept` meets its contract: the parameters are copied onto 384 zeros.
use native.Mathlib.Omega.{arith}
use Rattle.transport.specs.Segment.{message_octets}
use Rattle.sending.proofs.Octets.{copied}
use Rattle.sending.proofs.control.Message.kept.Goals as goal

pub returns : goal.returns
returns c = copied message_octets c.args.self.now.parameters.now c.copy.new.dst c.copy.ensures (omega (arith, c.args.self.now.fits))
