-- Event order over any kind of coordinate, and what it sees of a record of the pool.
pub mod Order
pub mod Keys
