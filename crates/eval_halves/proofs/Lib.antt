pub mod Others
pub mod Summing
