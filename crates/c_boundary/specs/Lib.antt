pub mod Boundary
pub mod Laws
