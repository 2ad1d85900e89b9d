pub mod Token
pub mod Line
pub mod Reading
pub mod Scan
pub mod Cursor
pub mod Written
