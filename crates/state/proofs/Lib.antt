-- Laws that several proofs cite; each file says its argument in its first line.
pub mod Tested
pub mod Listed
pub mod Joins
pub mod Carried
pub mod FormWords
pub mod Filled
pub mod FromFn
pub mod Openings
pub mod Statuses
