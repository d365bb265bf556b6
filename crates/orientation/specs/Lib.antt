-- Orientation is what this crate promises; the rest is for its private functions.
pub mod Orientation
pub mod Parts
pub mod Quick
pub mod Words
