-- The laws about the definitions of specs/.
pub mod AddressesLaws
pub mod IndexLaws
pub mod EveryLaws
pub mod SetupLaws
pub mod Addressed
