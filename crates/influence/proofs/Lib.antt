pub mod Costs
pub mod OneRecord
pub mod Reached
