-- Edge class: what is computed (`Class`, on the pool `OnPool`), the truth table that it is measured by (`Truth`), and what it tells up a status (`Status`).
pub mod Class
pub mod OnPool
pub mod Truth
pub mod Status
