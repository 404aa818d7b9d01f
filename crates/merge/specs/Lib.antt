pub mod Inside
pub mod Laws
pub mod Merge
