-- Giving up a session refuses and leaves everything, or zeroes a slot and nothing else. Assumes nothing.
use Prim.Native.Nat.{ℕ, ◌<◌}
use borrow.Author.Tests.{ltb-true}
use lib.Dec.{eqb, ltb}
use Rattle.std.specs.Prelude.{Ok, Err}
use Rattle.common.proofs.Tests.{by_choice}
use Rattle.memory.specs.Session.{session_slots, no_session, session_place}
use Rattle.receiver.specs.declared.answer.Refusal.TheVariants.{OutsideRules}
use Rattle.receiver.specs.declared.give_up.GivenUp.{GivenUp}
use Rattle.receiver.specs.declared.state.Receiver.{Receiver}
use Rattle.receiver.specs.GiveUp.{giving_up}
use Rattle.receiver.specs.State.{with_session}

-- what holds of either holds of giving up
pub by_giving_up :
    (P : GivenUp → Type 0) (r : Receiver) (src : ℕ) → P (record { answer = Err OutsideRules; receiver = r })
    → ((slot : ℕ) → slot < session_slots → P (record { answer = Ok tt; receiver = with_session r slot no_session })) → P (giving_up r src)
unfolding giving_up
by_giving_up P r src left freed =
    let slot = session_place r.sessions (record { src = src }) in
    by_choice P (eqb src 0) (λ _. left) (λ _. by_choice P (ltb slot session_slots) (λ t. freed slot (ltb-true slot session_slots t)) (λ _. left))
