-- The waiting events, and their queue.
pub mod Waiting
pub mod Queue
