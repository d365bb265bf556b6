-- Loading: edges become events.
pub mod Loading
pub mod OnPool
pub mod Answer
