-- A list, and a list in a lent slice: places, insertion and removal.
pub mod Lists
