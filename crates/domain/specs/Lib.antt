pub mod Domain
pub mod Examples
