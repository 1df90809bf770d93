pub mod Shown
pub mod Lines
pub mod First
pub mod Examples
