-- Laws about what the console does with a line.
pub mod AnsweredLaws
pub mod ReceivingLaws
pub mod BenchLaws
pub mod StepLaws
pub mod InputLaws
pub mod TurnLaws
pub mod Fits
