-- A sheet put in order: by what, how, which sheets are one drawing, and what is promised.
pub mod Order
pub mod Arranged
pub mod Drawing
pub mod Earlier
pub mod Arrange
pub mod Answer
pub mod Steps
