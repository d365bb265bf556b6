-- What the C entries hand back.
pub mod ToldTurn
pub mod ToldCrossing
