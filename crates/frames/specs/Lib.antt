pub mod Frames
pub mod Inside
pub mod Walk
