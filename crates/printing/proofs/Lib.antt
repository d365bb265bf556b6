-- Laws of printing.
pub mod Goings
pub mod Parts
pub mod Apart
pub mod Written
pub mod Held
pub mod Layers
pub mod Lengths
