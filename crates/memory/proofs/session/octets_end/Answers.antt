-- `memory::session::octets_end` meets its contract: of sixteen octets `len` are there at most, and the first four are in front.
-- Assumes nothing.
use native.Mathlib.Omega.{arith}
use Rattle.memory.proofs.SessionLaws.{octets_length}
use Rattle.memory.proofs.session.octets_end.Goals as goal

pub returns-clause-exact : goal.returns-clause-exact
returns-clause-exact c = omega (arith, octets_length c.args.transport c.args.len c.well_formed.0.1.0.1)
