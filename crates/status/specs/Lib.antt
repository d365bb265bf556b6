-- The status.
pub mod Status
