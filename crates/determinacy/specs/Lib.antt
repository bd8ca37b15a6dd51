-- What is stated of the contracts as their crates export them.
pub mod Outcome
pub mod Determinacy
