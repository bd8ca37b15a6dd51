-- What is asked at the bench, and its answer.
--   vets d ctl list   `vet CTL PDU ..`
use Rattle.std.specs.Prelude.{Bool, List, ℕ}
use Rattle.transport.specs.Vetting.{vetting}
use Rattle.commands.specs.declared.desk.Desk.{Desk}
use Rattle.answers.specs.Answer.{vetted_text}
use Rattle.console.specs.Answered.{Answered, answered}
use Rattle.console.specs.Receiving.{lent_of}

-- `vet CTL PDU ..`: the buffer has the length that `room` named second, and what is approved is its first octets; the desk stays as it is
unfoldable pub vets : Desk → Bool → List ℕ → Answered Desk
vets d ctl list =
    let v = vetting ctl list (lent_of d.room.message) in
    answered d (vetted_text v.answer v.buffer)
