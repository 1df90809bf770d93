pub mod Columns
pub mod Summing
