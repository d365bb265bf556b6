-- Laws of bytes and digits: `Back`, `Forth` and `Leading` are what the crates above cite.
pub mod Stores
pub mod Matching
pub mod Writing
pub mod Bytes
pub mod Reading
pub mod Back
pub mod Forth
pub mod Within
pub mod Table
pub mod Leading
pub mod Decimal
