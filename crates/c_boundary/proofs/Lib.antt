pub mod Codes
pub mod Lengths
