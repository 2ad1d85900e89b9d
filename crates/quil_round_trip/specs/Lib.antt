pub mod Unplaced
