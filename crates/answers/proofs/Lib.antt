-- Laws of the definitions in specs/.
pub mod PlacedLaws
pub mod TextLengths
pub mod Fits
pub mod ReadingsLaws
pub mod ReadingsFit
