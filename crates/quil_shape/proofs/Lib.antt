pub mod Takes
pub mod Tests
pub mod Starts
pub mod Choices
pub mod Agree
pub mod Only
pub mod Stops
pub mod Sound
pub mod Total
pub mod Verdicts
pub mod Expected
pub mod Reading
pub mod Places
mod NestedReads
