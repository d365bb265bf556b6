-- What one event does to the records.
pub mod Event
pub mod Clear
