-- Document 01's sheets, in its order: read from the top.
pub mod Lists
pub mod Bytes
pub mod Sets
pub mod Length
pub mod Sizes
pub mod Rows
pub mod Kind
pub mod Words
pub mod Reader
pub mod Left
