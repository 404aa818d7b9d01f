pub mod Labelling
pub mod Filling
pub mod Passed
pub mod Finding
