pub mod Picking
pub mod Ordered
