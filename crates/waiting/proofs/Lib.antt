-- The queue of waiting events gives what the scan over all of them would.
pub mod Leading
pub mod First
pub mod Members
pub mod Lasts
pub mod Withouts
pub mod Places
pub mod Queues
pub mod Puts
pub mod Moved
pub mod Evictions
pub mod Requeues
pub mod Ahead
