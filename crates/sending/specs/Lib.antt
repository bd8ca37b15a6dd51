-- What the receiver says: requests, transmissions, segments, acknowledgements, and what each call leaves.
pub mod Request
pub mod Transmission
pub mod Answer
pub mod Segment
pub mod Access
pub mod Control
pub mod Acknowledge
pub mod Stop
pub mod NewSeq
pub mod Sendable
