-- 01's refusals 1, 2 and 4 for the records of a pool.
pub mod Checks
pub mod Sound
pub mod OnPool
pub mod Numbers
