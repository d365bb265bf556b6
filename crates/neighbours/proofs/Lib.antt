-- Laws of neighbours: what the code does is the definition; the walk through a meeting, by which facts about runs are proved; and what a meeting makes of
-- two segments that cross (`Crossings`) or coincide (`Coincidences`).
pub mod Steps
pub mod Overlaps
pub mod Meetings
pub mod Likeness
pub mod Walk
pub mod Invariants
pub mod Kept
pub mod Keyed
pub mod Both
pub mod Growth
pub mod Trace
pub mod Codes
pub mod Crossings
pub mod Coincidences
pub mod Lent
