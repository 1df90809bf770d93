pub mod Number
pub mod Stored
