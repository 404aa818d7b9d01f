pub mod Windows
pub mod Inside
