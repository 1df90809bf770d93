pub mod Errors
pub mod Examples
