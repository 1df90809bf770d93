pub mod Axes
pub mod Passed
pub mod OnlyOn
pub mod Pivots
