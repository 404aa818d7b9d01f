pub mod UpTo
pub mod Halves
pub mod Cutting
pub mod Lanes
