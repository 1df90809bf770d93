pub mod Face
pub mod Calls
pub mod Examples
