-- Laws that several proofs cite; each file says its argument in its first line.
pub mod Packing
pub mod OnSession
pub mod Opened
pub mod Heard
pub mod HostOpen
pub mod HostRun
pub mod Lengths
pub mod Leaving
pub mod Ranges
pub mod Says
pub mod Fitting
pub mod PartyCalls
pub mod Encoded
pub mod Reading
pub mod Openings
pub mod Theorems
