pub mod Ended
pub mod Read
