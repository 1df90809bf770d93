pub mod Loops
pub mod Rounds
pub mod Passed
pub mod Kept
