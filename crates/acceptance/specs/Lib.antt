-- The checks of connection as the code runs them: a tally of the list first, then each check over all records.
pub mod Seen
pub mod Flaws
pub mod Lowest
pub mod OnPool
