pub mod Over
pub mod Near
