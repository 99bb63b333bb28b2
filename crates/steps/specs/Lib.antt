-- Document 01's steps, calls and runs, and what they reach: read from the top. `Ready` is what the acts ask of their caller.
pub mod Step
pub mod Moves
pub mod Calls
pub mod CallSays
pub mod Run
pub mod RunSays
pub mod Trace
pub mod Worked
pub mod Ready
pub mod Reach
