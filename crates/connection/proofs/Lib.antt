-- A traced table (`Traced`), the table in the arrays (`Tabled`), the checks before it (`Checked`), what the view shows of the arrays (`Shown`), what a
-- caller has from it all (`Calls`), and of the lent pool (`OnlyNumbers`).
pub mod Traced
pub mod Tabled
pub mod Checked
pub mod Shown
pub mod Calls
pub mod OnlyNumbers
