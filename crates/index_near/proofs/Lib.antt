pub mod Keys
pub mod Ranges
pub mod Splits
