pub mod Keeping
pub mod Labels
pub mod Counting
pub mod Peeling
pub mod Steps
