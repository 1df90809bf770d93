pub mod Formats
pub mod Examples
