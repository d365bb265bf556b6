-- Overlay's work: from the bytes of a sheet to the bytes of its contours.
pub mod Overlay
pub mod Answer
pub mod Insured
pub mod Arranged
pub mod Told
