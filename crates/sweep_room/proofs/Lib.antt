-- Laws of a larger pool.
pub mod Places
pub mod Fronts
pub mod Scans
pub mod Alike
pub mod Runs
pub mod Sweeps
pub mod Pools
pub mod Checked
pub mod Loaded
pub mod Calls
pub mod Examples
