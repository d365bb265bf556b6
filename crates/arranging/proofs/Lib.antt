-- Laws of arranging.
pub mod Ranks
pub mod Keys
pub mod Plain
pub mod InOrder
pub mod Same
pub mod Symmetric
pub mod Sheets
pub mod Promised
pub mod Earlier
pub mod KeyRows
pub mod RowsInOrder
pub mod Chosen
pub mod Rowed
pub mod Heights
pub mod Values
pub mod LeftEnds
pub mod Examples
