-- The loops of the sort (`Sorted`), of what needs none (`AsListed`) and of the places (`Placing`); what a caller has from them (`Told`).
pub mod Sorted
pub mod AsListed
pub mod Placing
pub mod Told
