pub mod Ends
pub mod Squared
