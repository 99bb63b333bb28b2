-- Laws that several proofs cite; each file says its argument in its first line.
pub mod Givens
pub mod Masks
pub mod Kind1
pub mod Kind2
pub mod Built
pub mod ReadBack
pub mod Keeps
pub mod Says
pub mod Theorems
