-- Laws of segment order.
pub mod Heights
pub mod Places
pub mod Certain
pub mod Agreement
pub mod Crossings
