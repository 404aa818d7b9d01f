pub mod Passed
pub mod Summing
pub mod Counting
pub mod Picked
pub mod Ranked
pub mod Kept
