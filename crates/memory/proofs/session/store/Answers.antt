-- `memory::session::store` meets its contract: each field of the session is what its own function gives.
-- Assumes nothing.
use Rattle.memory.specs.Session.{stored}
use Rattle.memory.proofs.SessionLaws.{place_most}
use Rattle.memory.proofs.session.store.Goals as goal

pub put_octets-requires : goal.put_octets-requires
put_octets-requires c = rw c.octet_place.ensures (place_most _ _)

pub returns : goal.returns
unfolding stored
returns c =
    rw (c.with.ensures, c.len_with.ensures, c.put_octets.ensures, c.octet_place.ensures)
