-- Laws that several proofs cite; each file says its argument in its first line.
pub mod Placing
pub mod Decimals
pub mod Going
pub mod Short
pub mod Outcomes
pub mod Worked
