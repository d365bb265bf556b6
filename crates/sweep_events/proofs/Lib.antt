-- Laws of one event's work; which of two coinciding neighbours counts (`Counts`).
pub mod Walk
pub mod Adapters
pub mod Passing
pub mod Counts
