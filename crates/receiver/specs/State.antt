-- The receiver's state with one part changed.
use Rattle.std.specs.Prelude.{List, ℕ, set}
use Rattle.memory.specs.declared.cache.Cache.{Cache}
use Rattle.memory.specs.declared.outgoing.Outgoing.{Outgoing}
use Rattle.memory.specs.declared.replay.Entry.{Entry}
use Rattle.memory.specs.declared.session.Session.{Session}
use Rattle.receiver.specs.declared.state.Receiver.{Receiver}

abbrev pub with_cache : Receiver → Cache → Receiver
with_cache r cache =
    record { node = r.node; next = r.next; cache = cache; replay = r.replay; sessions = r.sessions; out = r.out }

abbrev pub with_replay : Receiver → List Entry → Receiver
with_replay r replay =
    record { node = r.node; next = r.next; cache = r.cache; replay = replay; sessions = r.sessions; out = r.out }

abbrev pub with_session : Receiver → ℕ → Session → Receiver
with_session r slot s =
    record { node = r.node; next = r.next; cache = r.cache; replay = r.replay; sessions = set r.sessions slot s; out = r.out }

abbrev pub with_outgoing : Receiver → Outgoing → Receiver
with_outgoing r out =
    record { node = r.node; next = r.next; cache = r.cache; replay = r.replay; sessions = r.sessions; out = out }
