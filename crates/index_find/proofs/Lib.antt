pub mod Arith
pub mod Near
pub mod Call
pub mod Kept
pub mod Same
