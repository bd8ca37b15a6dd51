-- The laws about the definitions of specs/.
pub mod AnswerLaws
pub mod Opened
pub mod Gathered
pub mod Laws
pub mod GoodState
pub mod Good
