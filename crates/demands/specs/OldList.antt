-- The replay list by address (document 02, W9): for every setup and every list of calls the answers are those of the old list, and both lists hold the same entries. The receiver with the
-- old list is the same definitions over that list's operations, `walked`.
--   bare o       what a call leaves but the replay list: its answer, the buffers, the keys tried and all other state
--   OldAnswers   every call leaves the same but for the list
--   OldEntries   and the lists hold the same entries behind the last
use Rattle.std.specs.Prelude.{List, map, ◌≡◌}
use Rattle.memory.specs.Replay.{no_entries}
use Rattle.memory.specs.Walked.{walked, SameEntries}
use Rattle.node.specs.declared.setup.Setup.{Setup}
use Rattle.receiver.specs.State.{with_replay}
use Rattle.demands.specs.Call.{Call, Outcome, run_by, run, after_by, after}
use Rattle.demands.specs.Interleaved.{start}

-- its receiver's replay list is emptied
abbrev pub bare : Outcome → Outcome
bare o =
    record {
      receiver = with_replay o.receiver no_entries;
      answer = o.answer;
      pdu = o.pdu;
      message = o.message;
      made = o.made;
      octets = o.octets;
      tried = o.tried;
    }

abbrev pub OldAnswers : Type 0
OldAnswers = (s : Setup) (l : List Call) → map bare (run_by walked (start s) l) ≡ map bare (run (start s) l)

abbrev pub OldEntries : Type 0
OldEntries = (s : Setup) (l : List Call) → SameEntries (after_by walked (start s) l).replay (after (start s) l).replay
