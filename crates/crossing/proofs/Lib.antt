-- Laws of crossing.
pub mod Compared
pub mod KeepsBits
pub mod KeepsAnswers
pub mod Gap
pub mod Apart
