-- The contours of a table, as the lent arrays hold them.
pub mod Tracing
pub mod Parts
