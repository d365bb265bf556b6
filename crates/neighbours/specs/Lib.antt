-- Neighbours: one cut as a step, the whole, and what it makes of the two segments.
pub mod Step
pub mod Neighbours
pub mod Pairs
