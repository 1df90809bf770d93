pub mod Votes
pub mod Table
pub mod Total
pub mod Reorder
pub mod Examples
