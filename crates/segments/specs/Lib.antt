-- Segment order over any kind of coordinate and any crossing, and of two records of a pool.
pub mod Segments
pub mod OnPool
pub mod Quick
