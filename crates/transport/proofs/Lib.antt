-- The laws about the definitions of specs/.
pub mod LeadsBack
pub mod FormLaws
pub mod SegmentLaws
pub mod SecuringLaws
pub mod Ranges
pub mod ReadsBack
pub mod Examples
pub mod SecureOpen
pub mod PaperLaws
pub mod ListedLaws
pub mod VettingRules
pub mod FitLaws
pub mod BeginsFit
pub mod VettedExactly
pub mod VettedMet
pub mod VetRules
