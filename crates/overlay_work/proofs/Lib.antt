-- The sheet that is read (`Reading`), what each step after it hands on (`Handing`), that 5 is never told (`Lengths`), that small arrays do as well as the
-- large ones: connection's for a short list (`Outlines`), the pool where it is not full (`Room`); and what an insurer has of a printed map (`Insured`).
pub mod Reading
pub mod Empty
pub mod Handing
pub mod Refusals
pub mod Texts
pub mod Outlines
pub mod Lengths
pub mod Room
pub mod Insured
pub mod OneMap
