-- What a property list says: the opcode, the names, the numbers, the headers, the records, and what is promised of them.
pub mod Status
pub mod Properties
pub mod Reading
pub mod Header
pub mod Listed
pub mod Answer
pub mod Written
pub mod Recorded
pub mod Instance
pub mod Accuracy
pub mod Naming
