pub mod Exact
pub mod Range
pub mod Grid
pub mod Checks
pub mod Lines
pub mod Laws
