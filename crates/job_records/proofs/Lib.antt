pub mod Jobs
pub mod Fitting
pub mod Typed
