pub mod Reading
pub mod Round
pub mod Back
