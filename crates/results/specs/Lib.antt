-- The records of the result.
pub mod Edge
