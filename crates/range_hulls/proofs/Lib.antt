pub mod Widening
pub mod OneVector
