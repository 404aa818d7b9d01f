pub mod Exact
pub mod Products
