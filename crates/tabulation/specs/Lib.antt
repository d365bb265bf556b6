-- The table of result events in lent arrays.
pub mod Tabulation
pub mod Steps
