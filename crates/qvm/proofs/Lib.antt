pub mod Texts
pub mod Values
pub mod Options
pub mod Runs
pub mod Replies
