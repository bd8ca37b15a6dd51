-- What each call of the benchmark answers, and what it leaves in the buffer that it was lent.
pub mod Blocks
pub mod Mac
pub mod Open
pub mod Hearing
