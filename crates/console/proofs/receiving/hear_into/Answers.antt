-- `receiving::hear_into` meets its contract: what became of the PDU is put behind the answers, and behind it what was forwarded; neither buffer has grown.
-- Assumes nothing.
use native.Mathlib.Omega.{arith}
use borrow.Author.Rules.{rules}
use Rattle.text.proofs.WriterLaws.{writing_then}
use Rattle.console.specs.Receiving.{hears_into}
use Rattle.console.proofs.ReceivingLaws.{heard_fits_into}
use Rattle.console.proofs.receiving.hear_into.Goals as goal

pub returns : goal.returns
unfolding hears_into
returns c =
    let fits =
    heard_fits_into _ _ _ _ _ _ _ c.hear-h.ensures (omega (arith, c.forward-1.given, c.requires.0)) (omega (arith, c.message-1.given, c.requires.1)) in
    record { exact = search (writing_then, rules); fits = fits }
