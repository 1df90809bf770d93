pub mod Face
pub mod Examples
