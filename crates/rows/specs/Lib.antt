-- The table of result events in two lent arrays.
pub mod Rows
