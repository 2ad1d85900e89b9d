pub mod Causes
pub mod Laws
pub mod MemDice
pub mod MemSink
pub mod MemSource
pub mod Planned
pub mod Transfer
