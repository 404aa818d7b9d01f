pub mod Coefficient
pub mod Grid
pub mod Lines
pub mod Laws
