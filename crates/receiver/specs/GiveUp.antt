-- Giving up a session; giving up what isn't there is 14 (document 01, "Sending").
use Rattle.std.specs.Prelude.{Result, Ok, Err, [], ℕ, eqb, ltb, if◌then◌else◌}
use Rattle.common.specs.Paper.{Paper, Refusal, Given, ToldApart}
use Rattle.memory.specs.Session.{session_slots, no_session, session_place}
use Rattle.receiver.specs.declared.answer.Refusal as refusal
use Rattle.receiver.specs.declared.answer.Refusal.TheVariants.{OutsideRules}
use Rattle.receiver.specs.declared.give_up.GivenUp.{GivenUp}
use Rattle.receiver.specs.declared.state.Receiver.{Receiver}
use Rattle.receiver.specs.Answer.{refusal_number}
use Rattle.receiver.specs.State.{with_session}

-- this paper's number of each answer; it has no values
pub data Word : Type 0 where
  ended : Word

abbrev pub paper : Result Unit refusal.Refusal → Paper Word
paper (Ok _) = Given ended []
paper (Err n) = Refusal (refusal_number n) []

abbrev pub PaperApart : Type 0
PaperApart = ToldApart paper

-- 14: there is no session of that source, and SRC 0 is none; else its slot is zeroed
unfoldable pub giving_up : Receiver → ℕ → GivenUp
giving_up r src =
    let slot = session_place r.sessions (record { src = src }) in
    if eqb src 0 then record { answer = Err OutsideRules; receiver = r } else
    if ltb slot session_slots then record { answer = Ok tt; receiver = with_session r slot no_session } else
    record { answer = Err OutsideRules; receiver = r }
