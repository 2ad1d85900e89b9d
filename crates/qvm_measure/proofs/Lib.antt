pub mod Signs
pub mod Outcomes
