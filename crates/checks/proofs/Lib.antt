-- What passing the checks gives, and when they refuse. An entry cites `OnPool`; a search of its own over records cites `Unstruck`.
pub mod First
pub mod Told
pub mod Unstruck
pub mod Passed
pub mod Named
pub mod Left
pub mod OnPool
pub mod Lowest
