pub mod Jobs
pub mod Laws
