pub mod Windowing
pub mod Passing
