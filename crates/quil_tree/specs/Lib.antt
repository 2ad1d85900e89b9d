pub mod Expression
pub mod Names
pub mod Printed
pub mod Tasks
pub mod Values
