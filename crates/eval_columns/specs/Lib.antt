pub mod Columns
pub mod Inside
