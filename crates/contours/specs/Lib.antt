-- Connection (`connect_edges.rs`), over any kind of coordinate and any store of records, in the order of its steps:
-- result events in order, the table by positions, round a point, one contour, all contours, what is told of them, the checks, the whole.
pub mod Result
pub mod Table
pub mod Round
pub mod Walk
pub mod Contours
pub mod Outline
pub mod Accept
pub mod Connect
pub mod OnPool
pub mod Renaming
pub mod Walls
