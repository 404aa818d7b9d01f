pub mod Told
pub mod Going
