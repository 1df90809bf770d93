pub mod Bits
pub mod Rows
pub mod Cells
pub mod All
