-- How the loops go over the edges, what passing the checks gives, that loading keeps the lengths of arrays, and that a pool as loaded passes the checks of the sweep.
pub mod Edges
pub mod Turns
pub mod Accepted
pub mod Rows
pub mod Kept
pub mod AsLoaded
