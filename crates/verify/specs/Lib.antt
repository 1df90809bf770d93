pub mod Score
pub mod Examples
