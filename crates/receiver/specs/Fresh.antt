-- Setup (document 01, "What the receiver holds"): 14 outside the numbers of its table, else a receiver that has heard and sent nothing.
use Rattle.std.specs.Prelude.{Option, Some, None, Result, Ok, Err, List, [], ℕ, replicate}
use Rattle.common.specs.Paper.{Paper, Refusal, Given, ToldApart}
use Rattle.node.specs.declared.addresses.Node.{Node}
use Rattle.node.specs.declared.setup.Made.{Made}
use Rattle.node.specs.declared.setup.Setup.{Setup}
use Rattle.node.specs.Addresses.{element_places, no_node}
use Rattle.node.specs.Setup.{making}
use Rattle.memory.specs.Cache.{no_cache}
use Rattle.memory.specs.Outgoing.{no_outgoing}
use Rattle.memory.specs.Replay.{no_entries}
use Rattle.memory.specs.Session.{no_sessions}
use Rattle.receiver.specs.declared.answer.Refusal as refusal
use Rattle.receiver.specs.declared.answer.Refusal.TheVariants.{OutsideRules}
use Rattle.receiver.specs.declared.fresh.Ready.{Ready}
use Rattle.receiver.specs.declared.state.Receiver.{Receiver}
use Rattle.receiver.specs.Answer.{refusal_number}

-- this paper's number of each answer; it has no values
pub data Word : Type 0 where
  ready : Word

abbrev pub paper : Result Unit refusal.Refusal → Paper Word
paper (Ok _) = Given ready []
paper (Err n) = Refusal (refusal_number n) []

abbrev pub PaperApart : Type 0
PaperApart = ToldApart paper

-- cache, replay list, sessions and outgoing message are zero
abbrev pub fresh : Node → List ℕ → Receiver
fresh node next =
    record { node = node; next = next; cache = no_cache; replay = no_entries; sessions = no_sessions; out = no_outgoing }

-- a fresh receiver; else 14, and beside it zeros
abbrev pub setting_up_as : Option Made → Ready
setting_up_as (Some m) = record { answer = Ok tt; receiver = fresh m.node m.next }
setting_up_as None = record { answer = Err OutsideRules; receiver = fresh no_node (replicate element_places 0) }

unfoldable pub setting_up : Setup → Ready
setting_up s = setting_up_as (making s)
