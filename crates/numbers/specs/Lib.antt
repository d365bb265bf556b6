-- What a number is: binary64 as a machine computes with it, the whole number that it stands for, the next one up, points of two numbers, and the words that hold a number.
pub mod Binary64
pub mod Exact
pub mod Next
pub mod Points
pub mod Words
