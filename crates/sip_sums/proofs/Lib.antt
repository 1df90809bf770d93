pub mod Lines
pub mod Adding
