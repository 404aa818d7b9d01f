pub mod Checks
pub mod Clashes
pub mod Passed
pub mod Records
pub mod Rising
pub mod Steps
pub mod Union
pub mod Walked
