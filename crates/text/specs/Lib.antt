-- What bytes at a place are, and the numbers that digits stand for. A store is `lib.Seq`'s `sets`: a place past the end changes nothing.
pub mod Words
pub mod Digits
pub mod Quoted
