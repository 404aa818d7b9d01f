pub mod Putting
pub mod Decimal
pub mod Joining
pub mod Laws
