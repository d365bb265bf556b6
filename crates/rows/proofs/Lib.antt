-- Laws of the table in its arrays.
pub mod Lists
pub mod Read
pub mod Stored
