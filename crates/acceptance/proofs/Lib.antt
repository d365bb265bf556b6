-- Why the checks with a tally are the checks of connection.
pub mod Tallying
pub mod Telling
pub mod Chain
pub mod InTurn
pub mod Accepting
pub mod Connecting
