-- Connection as a call on lent arrays.
pub mod Connection
pub mod Answer
pub mod Shown
pub mod Demand
pub mod OnlyNumbers
pub mod Steps
