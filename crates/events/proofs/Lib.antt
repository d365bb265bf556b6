-- Laws of the pool, of runs of words, and of segments that lie apart. Callers cite these and never look behind `row_at`, `enter` and `store`, nor into a run.
pub mod Codes
pub mod Over
pub mod Stored
pub mod Rows
pub mod Looks
pub mod Faces
pub mod Lent
pub mod Runs
pub mod Parted
