-- What each call of the C radio firmware answers, and what it leaves in the buffer that it was lent.
pub mod Credential
pub mod ClearPdu
pub mod Open
pub mod Seal
pub mod SealOpen
pub mod Answers
