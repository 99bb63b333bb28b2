-- Laws that several proofs cite; each file says its argument in its first line.
pub mod Errors
pub mod Tight
pub mod Demands
pub mod Parties
pub mod Readings
pub mod Record
pub mod Theorems
