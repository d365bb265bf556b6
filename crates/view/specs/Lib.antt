-- A contour's part of the lent points.
pub mod View
pub mod Answer
