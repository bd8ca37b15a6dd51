-- What the console does with a line.
pub mod Answered
pub mod Receiving
pub mod Bench
pub mod Step
pub mod Input
