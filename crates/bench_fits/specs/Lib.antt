pub mod Fits
pub mod Starred
pub mod Gaps
pub mod Spoiled
