-- What the receiver is: its state, its answers, and what each call leaves.
pub mod State
pub mod Answer
pub mod Fresh
pub mod Whole
pub mod Segmented
pub mod Hearing
pub mod Passing
pub mod GiveUp
pub mod Good
