pub mod Command
pub mod Given
pub mod RunText
pub mod Calls
pub mod Ends
