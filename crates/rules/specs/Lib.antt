-- The rules of a sheet and the check, in document 01's order: read from the top. `Quick` is how the code tests the writer rule.
pub mod Rules
pub mod Check
pub mod Words
pub mod Says
pub mod Quick
