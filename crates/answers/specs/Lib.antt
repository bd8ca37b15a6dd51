-- What the console's answers say.
pub mod Answer
pub mod Looking
pub mod Readings
pub mod Fits
