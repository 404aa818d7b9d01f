pub mod Incumbent
