-- What a refused call tells.
pub mod Refusals
