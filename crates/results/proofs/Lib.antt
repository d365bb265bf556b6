-- Counting the members of a list that a test holds of (`Counted`); a list from its end to its front (`Backwards`).
pub mod Counted
pub mod Backwards
