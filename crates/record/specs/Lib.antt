-- Document 01's record.
pub mod Record
