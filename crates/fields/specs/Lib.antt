pub mod Fields
pub mod Buffers
