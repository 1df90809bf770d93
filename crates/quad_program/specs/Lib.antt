pub mod Form
pub mod Print
pub mod Program
pub mod Examples
