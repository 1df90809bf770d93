pub mod Ids
pub mod Cells
pub mod Total
pub mod Reorder
