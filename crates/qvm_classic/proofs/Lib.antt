pub mod Words
pub mod Fits
pub mod Lengths
pub mod Lines
