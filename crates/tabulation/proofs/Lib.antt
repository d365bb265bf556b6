-- Rows one after the other (`Filling`), the three steps (`Tabled`), what a caller has from them (`Standing`).
pub mod Filling
pub mod Tabled
pub mod Standing
