pub mod Residuals
pub mod Examples
