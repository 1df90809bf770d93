pub mod System
pub mod Done
pub mod Instance
