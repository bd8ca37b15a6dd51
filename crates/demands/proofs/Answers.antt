-- `GivesAnswers` and `SetupAnswers`: how a call ends says which answers it gives (Ends); setup is ready, or 14. Assumes nothing.
use mathlib.Core.Bool.{true}
use mathlib.Core.Path.{◌≡◌, refl}
use Rattle.std.specs.Prelude.{Result}
use Rattle.common.specs.Paper.{number_of}
use Rattle.receiver.specs.declared.answer.Refusal.{Refusal}
use Rattle.receiver.specs.Fresh.{paper}
use Rattle.receiver.proofs.Laws.Fresh.{by_setting_up}
use Rattle.demands.specs.Answers.{of_asking, GivesAnswers, SetupAnswers}
use Rattle.demands.proofs.Ends.{ends}

pub gives_answers : GivesAnswers
gives_answers r c = (ends r c).answers

pub setup_answers : SetupAnswers
setup_answers s = by_setting_up s (λ (a : Result Unit Refusal). of_asking (number_of (paper a)) ≡ true) refl refl
