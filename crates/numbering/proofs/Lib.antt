-- Laws of contour numbers in the pool.
pub mod TwoMarks
pub mod Settling
pub mod ByPlaces
