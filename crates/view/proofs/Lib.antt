-- What a part shows.
pub mod Parts
