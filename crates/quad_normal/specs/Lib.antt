pub mod Normal
pub mod Examples
