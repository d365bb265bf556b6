-- What a change leaves in a pool.
pub mod Changes
