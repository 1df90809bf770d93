pub mod Merging
pub mod Ends
pub mod Built
pub mod Belongs
