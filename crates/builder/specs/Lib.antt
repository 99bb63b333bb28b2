-- The sheets that are built, in document 01's words: read from the top.
pub mod Build
pub mod Given
pub mod Says
