-- Laws. Differences and Signs are about whole numbers, and the crates above cite them; Margins, Factors, Certain and Told are about the quick sign, the others
-- about bits and the long sum.
pub mod Differences
pub mod Signs
pub mod Fields
pub mod Carries
pub mod Products
pub mod Terms
pub mod Areas
pub mod Orders
pub mod Margins
pub mod Factors
pub mod Certain
pub mod Told
