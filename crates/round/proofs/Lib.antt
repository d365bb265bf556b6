-- Laws of the search round a point.
pub mod Found
pub mod Round
pub mod Blocks
pub mod InOrder
