pub mod Laws
pub mod Union
