-- What the lister prints: read from the top.
pub mod Text
pub mod Listed
