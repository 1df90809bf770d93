pub mod Sums
pub mod Numbered
pub mod Call
pub mod Pairs
