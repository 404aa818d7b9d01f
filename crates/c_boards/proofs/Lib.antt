pub mod Handing
pub mod Certifying
