pub mod Flat
pub mod Turns
pub mod Greatest
