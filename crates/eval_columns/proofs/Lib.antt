pub mod Places
pub mod Casts
pub mod Decoding
pub mod Laying
pub mod Marks
pub mod Parts
