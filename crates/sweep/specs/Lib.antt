-- The sweep (`subdivide_segments.rs`), in the order of its steps: the state, one event, the run, the entry on a lent pool.
pub mod State
pub mod Bounds
pub mod Event
pub mod Run
pub mod Lined
pub mod Sides
pub mod OnPool
pub mod Answer
pub mod Turn
