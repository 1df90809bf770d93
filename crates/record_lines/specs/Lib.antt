pub mod Names
pub mod Lines
pub mod Parts
pub mod Table
