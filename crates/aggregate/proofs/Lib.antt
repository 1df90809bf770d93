pub mod Answer
pub mod Reorder
