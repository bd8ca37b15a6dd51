-- What reading and writing text means: fields, octets as hex pairs, numbers, a refusal's number in words, and text put behind text.
pub mod Octets
pub mod Written
pub mod Writer
pub mod Field
pub mod Hex
pub mod Number
pub mod Refusal
