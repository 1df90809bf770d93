pub mod Trial
pub mod Held
pub mod Examples
