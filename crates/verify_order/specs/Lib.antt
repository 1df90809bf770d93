pub mod Sorted
pub mod Examples
