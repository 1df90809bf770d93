pub mod Record
pub mod Examples
