-- The replay list: a map from a source to the newest pair accepted and its last segmented message handed up (document 01, "Transport").
--   entry_place l src                where a source's entry stands or would stand
--   look_up l src                    a source's entry
--   has_room l src                   not 11: the source has an entry, or not all 32 are used
--   inserted l e                     the list with an entry more, or with its source's replaced
--   stale e pair                     9: the entry is newer or equal
--   is_last last message             it is the last segmented message handed up
--   accepted l src pair              the list after a whole message was accepted
--   handed_up l src last             the list after a segmented message was handed up
--   Listing                          a list's operations; `ascending` are those of this one
--   ReplayKept l                     all its places are there, and they ascend
--   EndsThere                        so a source's entry is found
use Rattle.std.specs.Prelude.{Bool, ◌&&◌, ◌||◌, not, List, ◌≡◌, ℕ, ◌-◌, ◌<◌, eqb, ltb, length, get_or, replicate, set, if◌then◌else◌}
use Rattle.common.specs.Halving.{halve}
use Rattle.common.specs.Lists.{tab}
use Rattle.memory.specs.declared.pair.Pair.{Pair}
use Rattle.memory.specs.declared.replay.Last.{Last}
use Rattle.memory.specs.declared.replay.Entry.{Entry}
use Rattle.memory.specs.declared.replay.Place.{Place}
use Rattle.memory.specs.Pair.{no_pair, newer, same_pair, greater}

-- how many entries there are
abbrev pub replay_entries : ℕ
replay_entries = 32

-- no segmented message was handed up: DST 0
abbrev pub no_last : Last
no_last = record { auth = no_pair; segn = 0; dst = 0 }

-- an empty place: SRC 0
abbrev pub no_entry : Entry
no_entry = record { src = 0; pair = no_pair; last = no_last }

-- a list with no entry
abbrev pub no_entries : List Entry
no_entries = replicate replay_entries no_entry

-- ---- in ascending order of source, empty places last (document 02, W9)
-- an entry stands before a source; an empty place stands behind all
unfoldable pub before : ℕ → Entry → Bool
before src e = not (eqb e.src 0) && ltb e.src src

-- so many looks settle 32 places
abbrev pub replay_looks : ℕ
replay_looks = 6

-- where a source's entry stands or would stand, found by halving
unfoldable pub entry_place : List Entry → ℕ → ℕ
entry_place l src = halve replay_looks (λ i. before src (get_or l i no_entry)) 0 replay_entries

-- with what stands there
abbrev pub standing : List Entry → ℕ → Place
standing l src = record { at = entry_place l src; held = get_or l (entry_place l src) no_entry }

-- what stands there is the source's
unfoldable pub is_listed : List Entry → ℕ → Bool
is_listed l src = eqb (get_or l (entry_place l src) no_entry).src src

-- a source's entry, or an empty one
unfoldable pub look_up : List Entry → ℕ → Entry
look_up l src = if is_listed l src then get_or l (entry_place l src) no_entry else no_entry

-- the last place is empty
unfoldable pub last_free : List Entry → Bool
last_free l = eqb (get_or l (replay_entries - 1) no_entry).src 0

-- the source has an entry, or the last place is empty
unfoldable pub has_room : List Entry → ℕ → Bool
has_room l src = is_listed l src || last_free l

-- what stands at place i when e has gone in at place p: those from p on have moved up by one
unfoldable pub shifted_at : List Entry → ℕ → Entry → ℕ → Entry
shifted_at l p e i =
    if ltb i p then get_or l i no_entry else
    if eqb i p then e else
    get_or l (i - 1) no_entry

-- an entry goes to its source's place, or between the lesser and the greater; one of source 0 is none, and where there is no room the list stays
unfoldable pub inserted : List Entry → Entry → List Entry
inserted l e =
    let p = entry_place l e.src in
    if eqb e.src 0 then l else
    if is_listed l e.src then set l p e else
    if last_free l then tab (shifted_at l p e) replay_entries else
    l

-- ---- what an entry says
-- there is an entry, and it is newer or equal
unfoldable pub stale : Entry → Pair → Bool
stale e pair = not (eqb e.src 0) && not (newer pair e.pair)

-- the entry becomes the greater of the two
unfoldable pub raised : Entry → Pair → Pair
raised e pair = if eqb e.src 0 then pair else greater pair e.pair

-- the same SeqAuth, SegN and DST
unfoldable pub is_last : Last → Last → Bool
is_last last message = not (eqb last.dst 0) && same_pair last.auth message.auth && (eqb last.segn message.segn && eqb last.dst message.dst)

-- ---- what uses the list takes its operations: so another list's receiver is the same definitions
pub record Listing : Type 0 where
  pub look_up : List Entry → ℕ → Entry
  pub has_room : List Entry → ℕ → Bool
  pub inserted : List Entry → Entry → List Entry

-- the list that the receiver has
abbrev pub ascending : Listing
ascending = record { look_up = look_up; has_room = has_room; inserted = inserted }

-- a whole message is accepted: its source's last segmented message stays
unfoldable pub accepted_by : Listing → List Entry → ℕ → Pair → List Entry
accepted_by by l src pair =
    by.inserted l (record { src = src; pair = raised (by.look_up l src) pair; last = (by.look_up l src).last })

-- a segmented message is handed up: it is kept with the entry
unfoldable pub handed_up_by : Listing → List Entry → ℕ → Last → List Entry
handed_up_by by l src last =
    by.inserted l (record { src = src; pair = raised (by.look_up l src) last.auth; last = last })

-- by the list that the receiver has
abbrev pub accepted : List Entry → ℕ → Pair → List Entry
accepted l src pair = accepted_by ascending l src pair

abbrev pub handed_up : List Entry → ℕ → Last → List Entry
handed_up l src last = handed_up_by ascending l src last

-- ---- what holds of every list that is kept so
-- a place that is used has only used places before it, of lesser sources
abbrev pub Ascending : List Entry → Type 0
Ascending l =
    (i j : ℕ) → i < j → j < replay_entries → ((get_or l j no_entry).src ≡ 0 → ⊥)
    → ((get_or l i no_entry).src ≡ 0 → ⊥) × ((get_or l i no_entry).src < (get_or l j no_entry).src)

-- all its places are there, and they ascend
pub record ReplayKept (l : List Entry) : Type 0 where
  pub places : length l ≡ replay_entries
  pub ascends : Ascending l

-- so halving ends at the only place where a source can stand
abbrev pub EndsThere : Type 0
EndsThere =
    (l : List Entry) → Ascending l → (src i : ℕ) → (src ≡ 0 → ⊥) → i < replay_entries → (get_or l i no_entry).src ≡ src → entry_place l src ≡ i
