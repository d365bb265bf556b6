-- Another order of the lines is another order of the edges (`Edges`); the places in use are renumbered (`InUse`), their connection is the same
-- (`Renumbered`), and so is what comes after loading (`Swept`). From bytes to bytes: `Bytes`.
pub mod Edges
pub mod InUse
pub mod Renumbered
pub mod Swept
pub mod Bytes
