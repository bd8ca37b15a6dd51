-- The replay list as it was before document 02's W9, to compare the new one with: entries in the order in which their sources came, found by walking from the front.
--   walked            its operations
--   In e l            an entry stands in a list
--   SameEntries a b   both lists hold the same entries
use Rattle.std.specs.Prelude.{Bool, ◌||◌, List, ◌≡◌, ℕ, ◌<◌, eqb, ltb, get_or, set, if◌then◌else◌}
use Rattle.common.specs.Search.{first}
use Rattle.memory.specs.declared.replay.Entry.{Entry}
use Rattle.memory.specs.Replay.{replay_entries, no_entry, Listing}

-- the place of a source's entry, and of the first empty place where src is 0; their number where there is none
unfoldable pub entry_place : List Entry → ℕ → ℕ
entry_place l src = first (λ e. eqb e.src src) l

-- a source's entry, or an empty one
unfoldable pub look_up : List Entry → ℕ → Entry
look_up l src = get_or l (entry_place l src) no_entry

-- the source has an entry, or a place is empty
unfoldable pub has_room : List Entry → ℕ → Bool
has_room l src = ltb (entry_place l src) replay_entries || ltb (entry_place l 0) replay_entries

-- an entry goes to its source's place, or to the first empty one
unfoldable pub inserted : List Entry → Entry → List Entry
inserted l e =
    if ltb (entry_place l e.src) replay_entries then set l (entry_place l e.src) e else
    set l (entry_place l 0) e

abbrev pub walked : Listing
walked = record { look_up = look_up; has_room = has_room; inserted = inserted }

-- ---- two lists
-- an entry stands in a list
pub record In (e : Entry) (l : List Entry) : Type 0 where
  pub at : ℕ
  pub within : at < replay_entries
  pub there : get_or l at no_entry ≡ e

-- each entry with a source stands in one exactly if it stands in the other
pub record SameEntries (a b : List Entry) : Type 0 where
  pub to_new : (e : Entry) → (e.src ≡ 0 → ⊥) → In e a → In e b
  pub to_old : (e : Entry) → (e.src ≡ 0 → ⊥) → In e b → In e a
