pub mod Plate
pub mod Masked
pub mod Filled
pub mod Errors
pub mod Six
