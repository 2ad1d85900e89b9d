pub mod Drops
pub mod Fronts
pub mod Walks
