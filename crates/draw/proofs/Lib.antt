pub mod Drawing
pub mod Best
pub mod Holding
