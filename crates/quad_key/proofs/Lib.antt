pub mod Signed
pub mod Stores
pub mod Keys
pub mod Modulo
pub mod Meaning
pub mod Neighbours
