-- Laws that several proofs cite; each file says its argument in its first line.
pub mod RuleWords
pub mod Says
pub mod ReadRows
pub mod Ascending
pub mod Quick
pub mod Theorems
