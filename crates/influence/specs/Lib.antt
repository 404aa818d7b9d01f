pub mod OneRecord
pub mod Laws
