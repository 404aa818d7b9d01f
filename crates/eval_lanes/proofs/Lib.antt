pub mod Filling
pub mod Lessening
