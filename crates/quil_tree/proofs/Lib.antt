pub mod NameSets
pub mod Plans
pub mod Postfix
pub mod Values
