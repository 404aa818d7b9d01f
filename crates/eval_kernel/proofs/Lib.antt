pub mod Vectors
pub mod Exact
pub mod Starting
