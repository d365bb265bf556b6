-- Contour numbers written in the pool.
pub mod Numbering
