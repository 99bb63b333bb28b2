-- Laws that several proofs cite; each file says its argument in its first line.
pub mod Refused
pub mod Theorems
