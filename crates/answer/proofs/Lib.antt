pub mod Passed
pub mod Lent
pub mod Numbers
pub mod Determined
