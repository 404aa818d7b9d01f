pub mod Laws
pub mod Picks
pub mod Counting
