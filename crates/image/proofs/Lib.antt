-- Laws that several proofs cite; each file says its argument in its first line.
pub mod Chosen
pub mod Written
pub mod Bytes
pub mod Cuts
pub mod Inverse
pub mod Filling
pub mod Counts
