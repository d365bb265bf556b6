-- The order of loading: another numbering of records, what is the same but for it, and the sentence about the two calls.
pub mod SameBut
pub mod Loadings
pub mod OnPool
