-- Laws of the order of loading.
pub mod Renamings
pub mod Scan
pub mod Twins
pub mod Classes
pub mod Alike
pub mod Farthest
pub mod Told
pub mod Runs
pub mod Permuted
pub mod Loaded
pub mod Checked
pub mod Started
pub mod Unused
pub mod Order
pub mod Calls
pub mod AtBinary64
pub mod Examples
