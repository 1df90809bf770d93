pub mod Elimination
pub mod Agrees
pub mod Steps
pub mod Instances
pub mod Examples
