pub mod Call
pub mod Examples
