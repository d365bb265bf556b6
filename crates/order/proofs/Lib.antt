-- Laws of event order.
pub mod Steps
pub mod Directions
pub mod Grid
pub mod Ties
pub mod Transitive
pub mod Laws
pub mod AtBinary64
