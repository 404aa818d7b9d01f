pub mod Lengths
pub mod Certifying
pub mod Ends
