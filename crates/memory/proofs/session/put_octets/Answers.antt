-- `memory::session::put_octets` meets its contract: the segment's octets fit behind `at`, so they are copied whole.
-- Assumes nothing.
use mathlib.Core.Path.{◌≡◌}
use native.Mathlib.Omega.{arith}
use borrow.Author.Rules.{rules}
use lib.ListN.{length}
use Rattle.memory.specs.Session.{segment_octets}
use Rattle.memory.proofs.SessionLaws.{octets_put}
use Rattle.memory.proofs.session.put_octets.Goals as goal

pub slice_bounds-copy-end : goal.slice_bounds-copy-end
slice_bounds-copy-end c =
    let sixteen : length c.args.h.transport ≡ 16 = search rules in
    omega (arith, c.octets_end-n.ensures.within)

pub returns : goal.returns
unfolding segment_octets
returns c =
    octets_put c.args.h.transport c.args.h.len c.args.bytes c.args.at c.well_formed.0.1.0.1 c.requires
    c.octets_end-n.ensures.exact c.octets_end-n.ensures.within c.copy.ensures
