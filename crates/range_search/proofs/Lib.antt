pub mod Found
pub mod Steps
pub mod Held
pub mod Ranged
pub mod Running
pub mod Last
