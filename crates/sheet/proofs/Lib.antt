-- Laws that several proofs cite; each file says its argument in its first line.
pub mod Folds
pub mod Bits
pub mod Numbers
pub mod Endian
pub mod KindNumbers
pub mod Ranges
pub mod Parts
pub mod Flat
pub mod InTurn
pub mod Slots
pub mod FirstBad
pub mod WriteSets
pub mod TestWords
