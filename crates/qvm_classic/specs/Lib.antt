pub mod Places
pub mod Checked
