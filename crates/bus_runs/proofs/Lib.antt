pub mod Lending
pub mod Showing
