pub mod Choice
pub mod Held
pub mod Once
pub mod Falling
pub mod Examples
