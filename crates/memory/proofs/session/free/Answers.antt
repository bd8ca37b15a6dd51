-- `memory::session::free` meets its contract: the first slot that holds no session is where the search of all ends.
-- Assumes nothing.
use Rattle.std.proofs.Common.{rules, tests, ◌∙◌}
use Rattle.std.proofs.lemmas.Iterator.{YieldsList-from_slice}
use Rattle.std.proofs.lemmas.Iterator.Search.{position_from_yields_List}
use Rattle.common.proofs.Searched.{position_is}
use Rattle.memory.specs.Session.{session_slots, is_free, free_place}
use Rattle.memory.proofs.session.free.Goals as goal

pub returns : goal.returns
unfolding free_place
returns c =
    position_from_yields_List is_free _ _ _ c.position.ensures.ran (YieldsList-from_slice c.args.sessions cc) (λ x b q k. search (rules, tests))
    ∙ position_is is_free c.args.sessions session_slots c.well_formed.0.1.0.1
