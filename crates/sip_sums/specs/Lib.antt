pub mod Field
pub mod Normal
pub mod Steps
pub mod Examples
