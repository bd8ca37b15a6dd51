-- `memory::session::begin` meets its contract: it is a free slot with the source, the SeqAuth and the terms.
-- Assumes nothing.
use Rattle.memory.specs.Session.{begun}
use Rattle.memory.proofs.session.begin.Goals as goal

pub returns : goal.returns
unfolding begun
returns c = rw c.none.ensures
