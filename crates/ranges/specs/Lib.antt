pub mod Ranges
pub mod Inside
