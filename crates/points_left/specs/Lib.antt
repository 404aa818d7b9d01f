pub mod Left
pub mod Inside
