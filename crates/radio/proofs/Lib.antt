-- The laws about the definitions of specs/, and the rules by which each call answers.
pub mod CredentialLaws
pub mod ClearPduLaws
pub mod OpenLaws
pub mod SealLaws
pub mod SealOpen
pub mod Answers
