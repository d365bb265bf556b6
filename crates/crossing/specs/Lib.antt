-- The definition of crossing. `Crossing` is the whole; `Modes`, `Boxes` and `Lines` are its steps; `Answer` gives each answer's number and values;
-- `KeepsBits` states what the ordered mode promises.
pub mod Boxes
pub mod Lines
pub mod Modes
pub mod Crossing
pub mod Answer
pub mod KeepsBits
