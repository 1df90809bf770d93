pub mod Reading
pub mod Printing
pub mod Whole
pub mod Status
pub mod Determined
