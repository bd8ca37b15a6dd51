-- `memory::cache::is_seen` meets its contract: an entry that is the PDU's is one that the search finds.
-- Assumes nothing.
use Rattle.std.proofs.Common.{rules, tests, ◌∙◌}
use Rattle.std.proofs.lemmas.Iterator.{YieldsList-from_slice}
use Rattle.std.proofs.lemmas.Iterator.Search.{any_from_yields_List}
use Rattle.common.proofs.Searched.{any_is}
use Rattle.memory.specs.Cache.{cache_entries, seen, same_seen, seen_of}
use Rattle.memory.proofs.cache.is_seen.Goals as goal

pub returns : goal.returns
unfolding seen
returns c =
    any_from_yields_List (λ e. same_seen e (seen_of c.args.h)) _ _ _ c.any.ensures.ran (YieldsList-from_slice c.args.cache.entries cc) (λ x b q k. search (rules, tests))
    ∙ any_is (λ e. same_seen e (seen_of c.args.h)) c.args.cache.entries cache_entries (search rules)
