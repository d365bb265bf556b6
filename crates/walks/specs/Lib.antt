-- One contour in the lent arrays.
pub mod Walks
