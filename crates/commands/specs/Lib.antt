-- What the console's lines say, and what is kept of them beside the receiver.
pub mod Command
pub mod Request
pub mod Naming
pub mod Listing
pub mod Line
pub mod Setting
pub mod Desk
