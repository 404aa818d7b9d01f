pub mod Gathering
pub mod Marking
pub mod Samples
pub mod Labelling
