-- `memory::session::place` meets its contract: the first session with the key is where the search of all ends.
-- Assumes nothing.
use Rattle.std.proofs.Common.{rules, tests, ◌∙◌}
use Rattle.std.proofs.lemmas.Iterator.{YieldsList-from_slice}
use Rattle.std.proofs.lemmas.Iterator.Search.{position_from_yields_List}
use Rattle.common.proofs.Searched.{position_is}
use Rattle.memory.specs.Session.{session_slots, session_key, same_key, session_place}
use Rattle.memory.proofs.session.place.Goals as goal

pub returns : goal.returns
unfolding session_place
returns c =
    position_from_yields_List (λ s. same_key (session_key s) c.args.key) _ _ _ c.position.ensures.ran (YieldsList-from_slice c.args.sessions cc) (λ x b q k. search (rules, tests))
    ∙ position_is (λ s. same_key (session_key s) c.args.key) c.args.sessions session_slots c.well_formed.0.1.0.1
