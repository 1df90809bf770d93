pub mod Affine
pub mod Examples
