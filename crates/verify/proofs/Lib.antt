pub mod Sorting
pub mod Scored
