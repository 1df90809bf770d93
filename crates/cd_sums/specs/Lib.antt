pub mod Sums
pub mod Both
