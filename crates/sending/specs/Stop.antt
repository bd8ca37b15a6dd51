-- Giving up the outgoing message; giving up what isn't there is 14 (document 01, "Sending").
use Rattle.std.specs.Prelude.{Ok, Err, eqb, if◌then◌else◌}
use Rattle.memory.specs.Outgoing.{no_outgoing}
use Rattle.receiver.specs.declared.answer.Refusal.TheVariants.{OutsideRules}
use Rattle.receiver.specs.declared.give_up.GivenUp.{GivenUp}
use Rattle.receiver.specs.declared.state.Receiver.{Receiver}
use Rattle.receiver.specs.State.{with_outgoing}

unfoldable pub stopping : Receiver → GivenUp
stopping r =
    if eqb r.out.src 0 then record { answer = Err OutsideRules; receiver = r } else
    record { answer = Ok tt; receiver = with_outgoing r no_outgoing }
