-- The first places of a pool, what a call leaves in them, and a call that wanted more of them.
pub mod Room
