-- What the receiver remembers: pairs, the message cache, the replay list, sessions and what becomes of a segment, the outgoing message.
pub mod Pair
pub mod Cache
pub mod Remembered
pub mod Replay
pub mod Walked
pub mod Session
pub mod Decision
pub mod Outgoing
