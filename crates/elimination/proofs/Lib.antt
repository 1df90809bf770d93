pub mod Alike
pub mod Ends
pub mod Back
pub mod Solved
pub mod Instances
