pub mod Packing
pub mod Runs
pub mod Names
pub mod Layouts
pub mod Written
