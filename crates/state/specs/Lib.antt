-- What a session keeps, how it is opened, and when it is well formed, computed and in words: read from the top.
pub mod Mark
pub mod Status
pub mod Place
pub mod Sizes
pub mod StatusNames
pub mod Session
pub mod Readings
pub mod Opening
pub mod WellFormed
pub mod Words
