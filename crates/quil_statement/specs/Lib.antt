pub mod Meaning
pub mod Says
pub mod Loops
