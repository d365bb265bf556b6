-- Laws of contours and holes in the lent arrays.
pub mod Holes
