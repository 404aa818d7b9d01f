pub mod Picking
pub mod Listing
pub mod Choosing
