-- The laws about the definitions of specs/.
pub mod AnswerLaws
pub mod Octets
pub mod Secured
pub mod NewSeq
pub mod Laws
