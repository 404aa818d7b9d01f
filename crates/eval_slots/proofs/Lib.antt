pub mod Empty
pub mod Summing
