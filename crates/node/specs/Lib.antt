-- What a node is: the addresses it answers to, its index apart from what setup fixes, and what setup makes.
pub mod Addresses
pub mod Index
pub mod Setup
pub mod Made
