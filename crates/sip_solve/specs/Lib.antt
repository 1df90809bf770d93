pub mod Solve
pub mod Steps
pub mod Examples
