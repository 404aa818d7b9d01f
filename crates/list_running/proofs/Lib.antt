pub mod Entries
pub mod Finding
pub mod Taking
pub mod Settling
pub mod Adding
