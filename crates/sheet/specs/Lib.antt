-- The sheet: what it is, how its bytes are read, its lines, what the code's answers mean, and what reading leaves.
pub mod Sheet
pub mod Reading
pub mod Lines
pub mod Shown
pub mod Stored
