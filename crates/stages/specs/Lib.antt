-- What the stages tell a C caller.
pub mod Told
