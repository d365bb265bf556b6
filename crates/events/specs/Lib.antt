-- The event record over any kind of coordinate, another numbering of records, the pool that holds records and what is left of it as lent, binary64 as the kind that the code uses, and quick tests: by runs of its words, and of segments that lie apart.
pub mod Coordinates
pub mod Event
pub mod Renaming
pub mod Store
pub mod Pool
pub mod Lent
pub mod Binary64
pub mod Runs
pub mod Under
