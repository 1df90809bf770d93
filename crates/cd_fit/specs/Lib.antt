pub mod Fit
pub mod Examples
