pub mod Face
pub mod Demand
