-- All contours in the lent arrays.
pub mod Starts
pub mod Steps
