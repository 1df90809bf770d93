pub mod Turns
pub mod OnlyOn
pub mod Three
