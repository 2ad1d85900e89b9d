pub mod Pieces
pub mod Definitions
pub mod Reading
