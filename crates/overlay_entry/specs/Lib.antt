-- What overlay's work and arranging tell a C caller.
pub mod Told
