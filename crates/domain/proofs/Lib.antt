pub mod Every
pub mod Finite
