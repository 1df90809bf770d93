pub mod Rising
pub mod Ranges
pub mod Chain
pub mod Laws
pub mod Count
pub mod Numbers
