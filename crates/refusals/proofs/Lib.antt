-- No two reasons have one number.
pub mod Numbers
