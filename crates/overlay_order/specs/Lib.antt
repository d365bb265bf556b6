-- The order of a sheet's edge lines.
pub mod Lines
