pub mod BigEndian
pub mod Parts
pub mod Vectors
pub mod Storing
pub mod Eight
