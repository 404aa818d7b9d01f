pub mod Exact
pub mod Order
