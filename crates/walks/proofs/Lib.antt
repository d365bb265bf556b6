-- Laws of one contour in the lent arrays.
pub mod Walks
