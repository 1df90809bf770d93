pub mod Rms
pub mod Examples
