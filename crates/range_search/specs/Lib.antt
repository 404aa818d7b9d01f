pub mod RangeSearch
pub mod Ranged
pub mod Laws
