pub mod Extract
pub mod Examples
