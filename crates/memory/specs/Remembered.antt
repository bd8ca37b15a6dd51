-- Promise: a full cache replaces its oldest entry (document 01, "What the receiver holds"), so it holds the last sixteen of those that were entered, and what is in it is one of them
-- (document 02, W3). An entry is found after 15 further ones, and gone at the 16th.
--   further c l              the cache with the entries of a list more
--   held c                   its entries, the oldest first
--   last_entries l           the last of a list, as many as the cache has places
--   Among e l                e is one of a list
--   HoldsLast, SeenExactly   what a cache holds, and when a PDU is in it
--   StillSeen, SeenNoMore    how long
use Rattle.std.specs.Prelude.{Bool, true, false, not, List, [], ◌∷◌, map, ◌⊎◌, ◌≡◌, ◌-◌, ◌≤◌, ◌<◌, eqb, length, drop}
use Rattle.common.specs.Search.{picked}
use Rattle.network.specs.declared.header.Header.{Header}
use Rattle.memory.specs.declared.cache.Cache.{Cache}
use Rattle.memory.specs.declared.cache.Seen.{Seen}
use Rattle.memory.specs.Cache.{cache_entries, no_cache, seen_of, seen, remembered, oldest_first}

-- the cache with the entries of a list more, in its order
abbrev pub further : Cache → List Header → Cache
further c [] = c
further c (h ∷ l) = further (remembered c h) l

-- ---- what it holds
-- SRC 0 marks an empty place
abbrev pub is_entry : Seen → Bool
is_entry e = not (eqb e.src 0)

unfoldable pub held : Cache → List Seen
held c = picked is_entry (oldest_first c)

-- the last of a list, as many as the cache has places; all of it where it has fewer
unfoldable pub last_entries : List Seen → List Seen
last_entries l = drop (length l - cache_entries) l

-- e is one of a list
abbrev pub Among : Seen → List Seen → Type 0
Among e [] = ⊥
Among e (x ∷ l) = (e ≡ x) ⊎ Among e l

-- each has a source, as every PDU has that opens
abbrev pub Sourced : List Header → Type 0
Sourced [] = Unit {0}
Sourced (h ∷ l) = (h.src ≡ 0 → ⊥) × Sourced l

-- one that had none holds the last sixteen
abbrev pub HoldsLast : Type 0
HoldsLast = (l : List Header) → Sourced l → held (further no_cache l) ≡ last_entries (map seen_of l)

-- a PDU is in it exactly if SRC, SEQ and IV Index are those of an entry
abbrev pub SeenExactly : Type 0
SeenExactly =
    (c : Cache) (h : Header) → length c.entries ≡ cache_entries → (h.src ≡ 0 → ⊥)
    → (seen c h ≡ true → Among (seen_of h) (held c)) × (Among (seen_of h) (held c) → seen c h ≡ true)

-- ---- how long
-- none of them has the SRC, SEQ and IV Index of h
abbrev pub NoneIs : Header → List Header → Type 0
NoneIs h [] = Unit {0}
NoneIs h (x ∷ l) = (seen_of x ≡ seen_of h → ⊥) × NoneIs h l

-- found after 15 further ones, whatever they are
abbrev pub StillSeen : Type 0
StillSeen =
    (c : Cache) (h : Header) (l : List Header) → length c.entries ≡ cache_entries → length l < cache_entries → seen (further (remembered c h) l) h ≡ true

-- gone at the 16th
abbrev pub SeenNoMore : Type 0
SeenNoMore =
    (c : Cache) (h : Header) (l : List Header) → length c.entries ≡ cache_entries → cache_entries ≤ length l → NoneIs h l → seen (further (remembered c h) l) h ≡ false
