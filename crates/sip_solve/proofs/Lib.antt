pub mod Axes
pub mod Room
