-- What is printed: the text of contours and of a refusal, contours in lent arrays, a sheet in lent arrays, what can be read back, and bytes put one after
-- the other.
pub mod Printing
pub mod Arrays
pub mod Rows
pub mod Fitting
pub mod Put
