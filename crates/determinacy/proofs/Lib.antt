-- A file proves the statements of the file of the same name in specs/, or holds the laws that those proofs rest on.
pub mod OutcomeLaws
pub mod Determinacy
