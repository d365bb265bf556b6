-- Laws of the sheet.
pub mod Places
pub mod Digits
pub mod Lines
pub mod Sections
pub mod Puts
pub mod Fronts
pub mod Written
pub mod Sheets
pub mod Stored
pub mod Copies
pub mod Cuts
pub mod Stuck
pub mod FirstWrong
pub mod Lengths
