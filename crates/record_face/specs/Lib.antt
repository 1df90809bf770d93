pub mod Face
pub mod Read
