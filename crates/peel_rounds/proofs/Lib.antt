pub mod Searching
pub mod Labels
pub mod Following
