pub mod Filled
pub mod Best
