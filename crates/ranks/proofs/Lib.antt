pub mod Largest
