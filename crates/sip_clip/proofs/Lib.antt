pub mod Errors
pub mod Rejecting
