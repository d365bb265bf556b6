-- Division of a segment: the definition, what it leaves of each record and of the lent numbers, the struct that the code changes, and two worked examples.
pub mod Division
pub mod Records
pub mod Untouched
pub mod Struct
pub mod Worked
