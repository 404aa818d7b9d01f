pub mod Parts
pub mod Replying
