pub mod Cost
pub mod Laws
pub mod Inside
