-- The holes of every contour in the lent arrays.
pub mod Holes
