pub mod Testing
pub mod Pushing
pub mod Stepping
pub mod Beginning
pub mod Going
pub mod Accepted
