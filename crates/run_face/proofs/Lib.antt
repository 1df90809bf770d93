pub mod Terms
pub mod Determined
