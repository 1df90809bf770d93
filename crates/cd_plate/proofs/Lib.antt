pub mod Filling
pub mod Even
