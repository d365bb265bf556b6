-- Laws of the entries.
pub mod InUse
pub mod Divisions
