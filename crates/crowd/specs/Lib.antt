-- A crowd that meets the premises of demand 3, and a message to a label that meets those of demand 2.
pub mod Crowd
pub mod Labels
