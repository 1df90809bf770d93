pub mod Key
pub mod Steps
pub mod Near
pub mod Examples
