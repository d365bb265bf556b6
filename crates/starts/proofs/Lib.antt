-- Laws of all contours in the lent arrays.
pub mod Steps
pub mod Starts
