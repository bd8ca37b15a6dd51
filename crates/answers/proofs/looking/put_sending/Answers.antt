-- `looking::put_sending` meets its contract: its parts are written one behind the other.
-- Assumes nothing.
use borrow.Author.Tests.{ne_eqb}
use Rattle.text.proofs.WriterLaws.{writing_then}
use Rattle.answers.proofs.looking.put_sending.Goals as goal

pub returns : goal.returns
returns c =
    rw (ne_eqb c.args.o.src 0 c.if-o-eq0.false) (writing_then _ _ _ c.number.ensures (writing_then _ _ _ c.put_pair.ensures c.put_heard.ensures))
