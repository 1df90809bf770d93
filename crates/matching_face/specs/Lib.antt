pub mod Face
pub mod Index
