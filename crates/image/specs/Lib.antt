-- A session in bytes.
pub mod Sizes
pub mod Image
pub mod Entries
