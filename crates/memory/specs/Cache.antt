-- The message cache holds the last sixteen PDUs that passed refusals 1 to 5 (document 01, "What the receiver holds") and 22 (document 02, W5), by SRC, SEQ and IV Index (W3).
--   seen c h         5: in the cache
--   remembered c h   the cache with one entry more
--   oldest_first c   its places, that of the oldest entry first
use Rattle.std.specs.Prelude.{Bool, ◌&&◌, List, ◌++◌, ℕ, ◌+◌, ◌%◌, eqb, ltb, replicate, set, take, drop}
use Rattle.common.specs.Search.{first}
use Rattle.network.specs.declared.header.Header.{Header}
use Rattle.memory.specs.declared.cache.Seen.{Seen}
use Rattle.memory.specs.declared.cache.Cache.{Cache}

-- how many entries there are
abbrev pub cache_entries : ℕ
cache_entries = 16

-- an empty place
abbrev pub no_seen : Seen
no_seen = record { src = 0; seq = 0; iv = 0 }

-- a cache with no entry
abbrev pub no_cache : Cache
no_cache = record { entries = replicate cache_entries no_seen; next = 0 }

-- a cache entry is SRC, SEQ and the IV Index under which the PDU was opened
abbrev pub seen_of : Header → Seen
seen_of h = record { src = h.src; seq = h.seq; iv = h.iv }

-- one and the same
abbrev pub same_seen : Seen → Seen → Bool
same_seen a b = eqb a.src b.src && (eqb a.seq b.seq && eqb a.iv b.iv)

-- one of the entries is it
unfoldable pub seen : Cache → Header → Bool
seen c h = ltb (first (λ e. same_seen e (seen_of h)) c.entries) cache_entries

-- a full cache replaces its oldest entry: places are filled in turn
unfoldable pub remembered : Cache → Header → Cache
remembered c h = record { entries = set c.entries (c.next % cache_entries) (seen_of h); next = (c.next % cache_entries + 1) % cache_entries }

-- the place that is filled next is that of the oldest entry
abbrev pub oldest_first : Cache → List Seen
oldest_first c = drop (c.next % cache_entries) c.entries ++ take (c.next % cache_entries) c.entries
