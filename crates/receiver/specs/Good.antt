-- What holds of a receiver that setup made, whatever it has heard since: the invariant that the theorems start from.
--   Gathering s   an open session: some segment is missing, and none past SegN is marked
--   Good r        the whole state
use Rattle.std.specs.Prelude.{true, false, Ok, List, ◌≡◌, ℕ, ◌+◌, ◌^◌, ◌≤◌, ◌<◌, length}
use Rattle.transport.specs.Segment.{message_octets}
use Rattle.memory.specs.declared.session.Session.{Session}
use Rattle.memory.specs.Cache.{cache_entries}
use Rattle.memory.specs.Replay.{ReplayKept}
use Rattle.memory.specs.Session.{session_slots, no_session, session_at, is_free, SessionsApart, complete}
use Rattle.node.specs.Made.{WellMade, NextWell}
use Rattle.node.specs.declared.setup.Setup.{Setup}
use Rattle.receiver.specs.declared.state.Receiver.{Receiver}
use Rattle.receiver.specs.Fresh.{setting_up}
use Rattle.receiver.specs.GiveUp.{giving_up}
use Rattle.receiver.specs.Hearing.{hearing}

-- an open session
pub record Gathering (s : Session) : Type 0 where
  -- SegN has 5 bits
  pub last_within : s.terms.segn < 32
  -- only places up to SegN are marked
  pub filled_within : s.filled < 2 ^ (s.terms.segn + 1)
  -- a complete one is freed at once
  pub missing : complete s ≡ false
  -- the octets of a message have their places
  pub octets_places : length s.bytes ≡ message_octets
  pub length_most : s.len ≤ message_octets

-- a slot: zeroed where it is free, else its session gathers a message
pub record Held (s : Session) : Type 0 where
  pub free_zero : is_free s ≡ true → s ≡ no_session
  pub gathers : is_free s ≡ false → Gathering s

-- the sessions: 8 slots, and a source has at most one
pub record SessionsKept (l : List Session) : Type 0 where
  pub places : length l ≡ session_slots
  pub apart : SessionsApart l
  pub each : (i : ℕ) → i < session_slots → Held (session_at l i)

pub record Good (r : Receiver) : Type 0 where
  -- keys, addresses and IV Index are as setup allows
  pub node_made : WellMade r.node
  -- each element's next SEQ
  pub next_well : NextWell r.node.elements r.next
  -- message cache: 16 entries
  pub cache_places : length r.cache.entries ≡ cache_entries
  -- replay list: 32 entries, ascending by source
  pub replay_kept : ReplayKept r.replay
  pub sessions_kept : SessionsKept r.sessions

-- true after setup
abbrev pub GoodFresh : Type 0
GoodFresh = (s : Setup) → (setting_up s).answer ≡ Ok tt → Good (setting_up s).receiver

-- kept by hearing any octets, with any buffers
abbrev pub GoodHear : Type 0
GoodHear = (r : Receiver) (pdu fwd msg : List ℕ) → Good r → Good (hearing r pdu fwd msg).heard.receiver

-- kept by giving up any source's session
abbrev pub GoodGiveUp : Type 0
GoodGiveUp = (r : Receiver) (src : ℕ) → Good r → Good (giving_up r src).receiver
