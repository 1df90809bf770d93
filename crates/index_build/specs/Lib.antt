pub mod Merge
pub mod Build
