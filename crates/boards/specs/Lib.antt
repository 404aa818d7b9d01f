pub mod Boards
pub mod Inside
