-- What a refused call leaves.
pub mod AsLent
