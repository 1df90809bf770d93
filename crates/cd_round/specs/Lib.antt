pub mod Round
pub mod Examples
