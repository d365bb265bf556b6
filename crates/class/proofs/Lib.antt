-- Edge class measured by the truth table of the set operations: one edge (`Truth`, by the tables of `Rows`), from an edge to the next above it
-- (`Handing`), up a status (`Status`), two edges in one place (`Coinciding`). What it leaves of the lent numbers (`Lent`).
pub mod Rows
pub mod Truth
pub mod Handing
pub mod Status
pub mod Coinciding
pub mod Lent
