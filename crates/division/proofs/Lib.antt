-- Laws of division.
pub mod Cases
pub mod Records
pub mod Pairs
pub mod Outcomes
pub mod Sides
pub mod Whole
pub mod AtBinary64
pub mod Untouched
pub mod Worked
