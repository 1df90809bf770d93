pub mod Insertion
pub mod InTurn
pub mod Floats
pub mod Backward
