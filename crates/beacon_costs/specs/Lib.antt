pub mod BeaconCosts
pub mod Laws
pub mod Chunks
pub mod Inside
