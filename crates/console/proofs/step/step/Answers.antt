-- `step::step` meets its contract: what the line says is one rule, and its answer fits.
-- Assumes nothing.
use Rattle.console.proofs.StepLaws.{step_rules}
use Rattle.console.proofs.Fits.{fits_rules}
use Rattle.console.proofs.step.step.Goals as goal

pub returns-in-Hear : goal.returns-in-Hear
returns-in-Hear c = record { exact = search step_rules; fits = search fits_rules }

pub returns-in-Send : goal.returns-in-Send
returns-in-Send c = record { exact = search step_rules; fits = search fits_rules }

pub returns-in-GiveUp : goal.returns-in-GiveUp
returns-in-GiveUp c = record { exact = search step_rules; fits = search fits_rules }

pub returns-in-Show : goal.returns-in-Show
returns-in-Show c = record { exact = search step_rules; fits = search fits_rules }

pub returns-in-Readings : goal.returns-in-Readings
returns-in-Readings c = record { exact = search step_rules; fits = search fits_rules }

pub returns-in-Vet : goal.returns-in-Vet
returns-in-Vet c = record { exact = search step_rules; fits = search fits_rules }

pub returns-in-SetUp : goal.returns-in-SetUp
returns-in-SetUp c = record { exact = search step_rules; fits = search fits_rules }

pub returns-in_default : goal.returns-in_default
returns-in_default c = record { exact = search step_rules; fits = search fits_rules }
