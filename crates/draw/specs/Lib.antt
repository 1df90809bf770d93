pub mod Draw
pub mod Best
pub mod Holds
pub mod Examples
