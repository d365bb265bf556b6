-- Laws of the contours in the lent arrays.
pub mod Tracing
