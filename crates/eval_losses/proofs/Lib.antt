pub mod Exact
pub mod Pairs
