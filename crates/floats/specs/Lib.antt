pub mod Magnitude
pub mod Floor
pub mod Power
pub mod Rounded
pub mod Patterns
pub mod Examples
