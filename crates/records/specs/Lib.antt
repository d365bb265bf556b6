-- 01's entries on single records of a pool.
pub mod Records
pub mod InUse
pub mod Dividing
