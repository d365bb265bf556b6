-- Laws about numbers that the crates above cite.
pub mod Ends
pub mod First
pub mod Units
pub mod Place
pub mod OneWay
pub mod Patterns
pub mod Values
pub mod Limit
pub mod Next
pub mod Equal
pub mod NextSame
pub mod SignOfZero
pub mod LessUnsigned
pub mod Rounding
pub mod Between
pub mod Subtraction
pub mod Multiplication
