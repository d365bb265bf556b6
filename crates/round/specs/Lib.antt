-- What a search round a point finds in the lent arrays.
pub mod Block
pub mod Round
