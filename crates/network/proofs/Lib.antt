-- The laws about the definitions of specs/.
pub mod OctetsLaws
pub mod AddressLaws
pub mod IvIndexLaws
pub mod Examples
pub mod TrialLaws
pub mod CandidatesLaws
pub mod OpeningLaws
pub mod OpeningBounds
pub mod Front
pub mod Sealed
pub mod SealOpen
pub mod SealingLaws
pub mod Forwarded
pub mod Resealed
pub mod PduOctets
