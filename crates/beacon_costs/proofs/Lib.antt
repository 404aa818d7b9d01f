pub mod Adding
pub mod Chunks
pub mod Writing
pub mod Passed
