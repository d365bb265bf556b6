-- The result events in order and the places of records, in lent arrays.
pub mod Positions
pub mod Steps
