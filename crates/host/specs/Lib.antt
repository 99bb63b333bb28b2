pub mod Word
pub mod Calls
pub mod Says
pub mod Demand
