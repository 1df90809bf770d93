pub mod Triples
pub mod Fits
pub mod Determinant
