-- What a move of the members leaves in the slice (`Laws`), how a search comes to a slot (`Slots`), the members after an insertion or a removal
-- (`Members`), and a list that is stored in front (`Fronts`).
pub mod Laws
pub mod Slots
pub mod Members
pub mod Fronts
